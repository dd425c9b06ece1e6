use Rattle.std.proofs.Common.{◌≡◌}
use Rattle.sum_outcome.specs.inner.Incentives.{IsKnownRight}
use Rattle.sum_outcome.proofs.opposites.opposite_of.Given as goal

abbrev pub invariant-others : goal.invariant-others
invariant-others l = IsKnownRight l.store l.known × (l.known.answers.cap ≡ l.fn.known.answers.cap)
