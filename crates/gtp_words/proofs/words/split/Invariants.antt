use Rattle.std.proofs.Common.{length, map}
use Rattle.gtp_words.proofs.WordLemmas.{AreSplit}
use Rattle.gtp_words.proofs.words.split.Given as goal

abbrev pub invariant-splitting : goal.invariant-splitting
invariant-splitting l = AreSplit l.text (map (λ w. w.now) l.words.items) l.left

abbrev pub decreases-splitting : goal.decreases-splitting
decreases-splitting l = length l.left
