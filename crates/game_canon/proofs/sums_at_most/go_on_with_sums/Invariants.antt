use Rattle.std.proofs.Common.{◌≡◌, ◌-◌}
use Rattle.game_canon.specs.inner.SumComparisons.{rank, HasResisted}
use Rattle.game_canon.proofs.sums_at_most.go_on_with_sums.Given as goal

abbrev pub invariant-places : goal.invariant-places
invariant-places l = (l.current.pair ≡ l.fn.question.pair) × HasResisted l.store l.current

abbrev pub decreases-places : goal.decreases-places
decreases-places l = 4 - rank l.current.place
