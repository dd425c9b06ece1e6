use Rattle.std.proofs.Common.{take}
use Rattle.gtp_words.specs.Words.{AreBlanks}
use Rattle.gtp_words.proofs.words.blanks_before.Given as goal

abbrev pub invariant-blanks : goal.invariant-blanks
invariant-blanks l = AreBlanks (take l.at l.text)
