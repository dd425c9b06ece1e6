use Rattle.std.proofs.Common.{◌≡◌, ◌++◌, drop}
use Rattle.gtp_words.specs.Words.{cleaned}
use Rattle.gtp_words.proofs.words.clean.Given as goal

abbrev pub invariant-cleaning : goal.invariant-cleaning
invariant-cleaning l = l.text.items ++ cleaned (drop l.at l.line) ≡ cleaned l.line
