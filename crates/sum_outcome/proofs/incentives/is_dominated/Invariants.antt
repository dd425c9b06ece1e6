use Rattle.std.proofs.Common.{◌≡◌}
use Rattle.sum_outcome.specs.inner.Incentives.{IsKnownRight}
use Rattle.sum_outcome.proofs.incentives.is_dominated.Given as goal

abbrev pub invariant-rivals : goal.invariant-rivals
invariant-rivals l = IsKnownRight l.store l.known × (l.known.answers.cap ≡ l.fn.known.answers.cap)
