-- The numbers of the statuses.
use Rattle.std.specs.Prelude.{ℕ}
use Rattle.endgame_questions.specs.declared.status.Status.{Status}
use Rattle.endgame_questions.specs.declared.status.Status.TheVariants.{Done, Usage, CannotRead, CannotWrite, BadFile, Cycle, RegionLimit, FormLimit, Memory, TooManyLines, TooLong, BadExpression, CalcLimit, CaptureLimit}

-- the number of a status, with which the program ends
abbrev pub code_of : Status → ℕ
code_of Done = 0
code_of Usage = 1
code_of CannotRead = 2
code_of CannotWrite = 3
code_of (BadFile fault) = 4
code_of Cycle = 5
code_of RegionLimit = 6
code_of FormLimit = 7
code_of Memory = 8
code_of TooManyLines = 9
code_of TooLong = 10
code_of (BadExpression fault) = 12
code_of CalcLimit = 13
code_of CaptureLimit = 14
