use Rattle.std.proofs.Common.{◌-◌, ◌≤◌}
use Rattle.thermograph.specs.inner.Scaffolds.{line}
use Rattle.thermograph.proofs.WallLaws.{IsTracing}
use Rattle.thermograph.proofs.scaffold.Scaffold.trace.Given as goal

abbrev pub invariant-loop-at : goal.invariant-loop-at
invariant-loop-at l = (l.at ≤ l.end) × IsTracing (line l.self) l.end l.at l.breaks.items

abbrev pub decreases-loop-at : goal.decreases-loop-at
decreases-loop-at l = l.end - l.at
