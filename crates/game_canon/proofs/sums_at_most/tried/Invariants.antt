use Rattle.std.proofs.Common.{ℕ, ◌<◌, get_or}
use Rattle.game_canon.specs.SumComparisons.{IsSumWithin}
use Rattle.game_canon.specs.inner.SumComparisons.{counter_by}
use Rattle.game_canon.proofs.sums_at_most.tried.Given as goal

abbrev pub invariant-options : goal.invariant-options
invariant-options l = (j : ℕ) → j < l.option-index → IsSumWithin l.store (counter_by l.question.pair l.question.place (get_or l.options j 0)) → ⊥
