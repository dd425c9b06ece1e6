use Rattle.std.proofs.Common.{◌-◌, ◌^◌, ◌<◌}
use Rattle.thermograph.specs.inner.Scaffolds.{line, AreApart}
use Rattle.thermograph.proofs.meeting.first_meeting.Given as goal

abbrev pub invariant-walking : goal.invariant-walking
invariant-walking l = (l.place < 2 ^ 120) × AreApart (line l.left) (line l.right) l.place

abbrev pub decreases-walking : goal.decreases-walking
decreases-walking l = 2 ^ 120 - l.place
