use Rattle.std.proofs.Common.{◌≡◌}
use Rattle.sum_outcome.specs.inner.Incentives.{IsKnownRight}
use Rattle.sum_outcome.proofs.incentives.has_preferred.Given as goal

abbrev pub invariant-options : goal.invariant-options
invariant-options l = IsKnownRight l.store l.known × (l.known.answers.cap ≡ l.fn.known.answers.cap)
