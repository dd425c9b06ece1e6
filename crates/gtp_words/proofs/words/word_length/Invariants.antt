use Rattle.std.proofs.Common.{◌≢◌, take, All}
use Rattle.gtp_words.proofs.words.word_length.Given as goal

abbrev pub invariant-letters : goal.invariant-letters
invariant-letters l = All (λ b. b ≢ 32) (take l.at l.text)
