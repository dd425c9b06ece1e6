use Rattle.std.proofs.Common.{◌-◌, ◌≤◌}
use Rattle.thermograph.specs.inner.Scaffolds.{rise, IsAlong}
use Rattle.thermograph.proofs.scaffold.Scaffold.last_along.Given as goal

abbrev pub invariant-loop-place : goal.invariant-loop-place
invariant-loop-place l = (l.start ≤ l.place) × (l.place ≤ l.end) × IsAlong (rise l.self) l.rising l.start l.place

abbrev pub decreases-loop-place : goal.decreases-loop-place
decreases-loop-place l = l.end - l.place
