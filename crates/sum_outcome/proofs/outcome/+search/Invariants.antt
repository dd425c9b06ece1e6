use Rattle.std.proofs.Common.{◌≡◌, ◌+◌, ◌*◌, ◌<◌, ℕ, get_or, sum}
use Rattle.sum_outcome.specs.inner.Memo.{StaysRight}
use Rattle.sum_outcome.specs.inner.Incentives.{IsPlaceSettled}
use Rattle.sum_outcome.proofs.DominationLaws.{OptionIsSettled}
use Rattle.sum_outcome.proofs.outcome.+search.Given as goal

abbrev pub decreases-loses_sum : goal.decreases-loses_sum
decreases-loses_sum l = 3 * sum l.sum.now + 2

abbrev pub decreases-loses_without : goal.decreases-loses_without
decreases-loses_without l = 3 * sum l.sum.now + 1

abbrev pub decreases-loses_by_moves : goal.decreases-loses_by_moves
decreases-loses_by_moves l = 3 * sum l.sum.now + 1

abbrev pub decreases-wins_at : goal.decreases-wins_at
decreases-wins_at l = 3 * sum l.sum.now

abbrev pub invariant-loses_by_moves-places : goal.invariant-loses_by_moves-places
invariant-loses_by_moves-places l = (l.sum ≡ l.fn.sum) × ((k : ℕ) → k < l.place → IsPlaceSettled l.store l.fn.sum l.number l.side k) × StaysRight l.store l.fn.memo l.memo

abbrev pub invariant-wins_at-options : goal.invariant-wins_at-options
invariant-wins_at-options l = (l.sum ≡ l.fn.sum)
    × ((j : ℕ) → j < l.option-index → OptionIsSettled l.store l.fn.sum l.number l.side l.place (get_or l.options j 0))
    × StaysRight l.store l.fn.memo l.memo
