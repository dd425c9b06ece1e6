use Rattle.std.proofs.Common.{length, ◌-◌, ◌≡◌, ◌<◌, drop}
use Rattle.thermograph.specs.Breaks.{wall_at}
use Rattle.thermograph.proofs.breaks.value.Given as goal

abbrev pub invariant-loop-i : goal.invariant-loop-i
invariant-loop-i l = (l.i < length l.breaks) × (wall_at l.breaks l.t ≡ wall_at (drop l.i l.breaks) l.t)

abbrev pub decreases-loop-i : goal.decreases-loop-i
decreases-loop-i l = length l.breaks - l.i
