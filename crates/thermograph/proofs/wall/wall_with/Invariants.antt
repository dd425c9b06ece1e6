use Rattle.std.proofs.Common.{◌≡◌, take}
use Rattle.thermograph.specs.inner.Thermographs.{points}
use Rattle.thermograph.proofs.wall.wall_with.Given as goal

abbrev pub invariant-loop-point : goal.invariant-loop-point
invariant-loop-point l = l.wall ≡ points (take l.point-index l.breaks)
