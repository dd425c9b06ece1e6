use Rattle.std.proofs.Common.{◌*◌, ◌≤◌, take}
use Rattle.report.specs.inner.Trial.{AreTogether}
use Rattle.report.proofs.trial.positions.Given as goal

abbrev pub invariant-adding : goal.invariant-adding
invariant-adding l = AreTogether (take l.number l.solved.regions) l.total × (l.total ≤ l.number * 18446744073709551615)
