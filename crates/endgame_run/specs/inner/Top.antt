-- What the parts of the top call answer.
use Rattle.std.specs.Prelude.{◌≡◌, ◌≢◌, codes, ℕ, [], List, Bool, Option, true, false}
use Rattle.desk_io.specs.Desk.{Input}
use Rattle.go_grid.specs.declared.grid.Colour.{Colour}
use Rattle.go_grid.specs.Chain.{IsSettled}
use Rattle.sgf_go.specs.declared.settings.Settings.{Settings}
use Rattle.go_play.specs.Setup.{Setup}
use Rattle.gd_words.specs.Job.{Job}
use Rattle.gd_words.specs.Task.Task.{ask, calc, gtp, play, trial}
use Rattle.engine_player.specs.Opening.{OpensGame}
use Rattle.endgame_questions.specs.declared.terms.GameTerms.{GameTerms}
use Rattle.gtp_words.specs.declared.end.GtpEnd.{GtpEnd}
use Rattle.gtp_words.specs.declared.end.GtpEnd.TheVariants as end
use Rattle.endgame_run.specs.Game.{IsEngine, IsGame, question_of_game}
use Rattle.endgame_run.specs.Limits.{board_limits, engine_limits, terms_of}
use Rattle.endgame_questions.specs.Question.{IsAnswer, IsPositionAnswer}
use Rattle.endgame_questions.specs.Written.{Finishes}
use Rattle.endgame_run.specs.declared.question.Asked.{Asked}
use Rattle.endgame_run.specs.declared.question.Asked.TheVariants as asked
use Rattle.endgame_run.specs.declared.question.Opened.{Opened}
use Rattle.endgame_run.specs.declared.question.Opened.TheVariants.{Game, Fault}
use Rattle.endgame_questions.specs.declared.status.Status.{Status}
use Rattle.endgame_questions.specs.declared.status.Status.TheVariants.{CannotRead, CannotWrite, Done, Memory, TooManyLines}

-- the job asks a question within its limits, or for a game, with its colour for the engine, for the board of a number, for the answer to
-- an expression within its limit of parts, or for the engine within its limits, with a board of its own or without
abbrev pub IsAsked : Job → Asked → Type 0
IsAsked job (asked.Answer inquiry) = (job.task ≡ ask inquiry.question inquiry.word.now) × (inquiry.terms ≡ terms_of job)
IsAsked job (asked.Game game) = (job.task ≡ play game.word.now) × (game.terms ≡ terms_of job) × (game.cycles ≡ job.cycles) × (game.engine ≡ job.engine)
IsAsked job (asked.Trial number) = job.task ≡ trial number
IsAsked job (asked.Calc line) = (job.task ≡ calc line.expression.now) × (line.parts ≡ job.parts)
IsAsked job (asked.Gtp limits) = (job.task ≡ gtp) × (job.keep_board ≡ false) × (limits ≡ engine_limits job)
IsAsked job (asked.BoardGtp limits) = (job.task ≡ gtp) × (job.keep_board ≡ true) × (limits ≡ board_limits job)

-- what is written behind a session of the engine, by its end, and the status: the line of a fault, or nothing
abbrev pub IsClosed : GtpEnd → ℕ → ℕ → Option (List ℕ) → Option (List ℕ) → Status → Type 0
IsClosed end.Quit kb kn before now result = (result ≡ Done) × (now ≡ before)
IsClosed end.InputEnded kb kn before now result = (result ≡ Done) × (now ≡ before)
IsClosed end.ReadFault kb kn before now result = Finishes CannotRead (codes "fault cannot read\n") kb kn before now result
IsClosed end.WriteFault kb kn before now result = (result ≡ CannotWrite) × (now ≡ before)
IsClosed end.TooManyLines kb kn before now result = Finishes TooManyLines (codes "fault lines\n") kb kn before now result
IsClosed end.Memory kb kn before now result = (result ≡ Memory) × (now ≡ before)

-- a session that begins with the position, or the report of what keeps it from being solved
abbrev pub IsBegun : GameTerms → Bool → Option Colour → Setup → Opened → Type 0
IsBegun terms cycles given setup (Game session) = IsSettled setup.board × OpensGame cycles terms.limits terms.tax setup session.game × IsEngine given setup session.engine
    × (session.held ≡ [])
IsBegun terms cycles given setup (Fault report) = IsPositionAnswer (question_of_game cycles) terms setup report.status report.text
    × (report.status ≢ Done)

-- a session that begins with the position of the file of the word, or the report of what keeps it from being solved
abbrev pub IsOpened : GameTerms → Bool → Option Colour → Settings → List ℕ → Input → Input → Opened → Type 0
IsOpened terms cycles given settings word i j (Game session) = IsGame terms cycles given settings word i session.engine session.game × (session.held ≡ [])
IsOpened terms cycles given settings word i j (Fault report) = IsAnswer (question_of_game cycles) terms settings word i j report.status report.text
    × (report.status ≢ Done)
