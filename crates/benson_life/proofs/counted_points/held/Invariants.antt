use Rattle.std.proofs.Common.{◌≡◌, take}
use Rattle.std.specs.List.{sum_by}
use Rattle.benson_life.specs.Held.{worth}
use Rattle.benson_life.proofs.counted_points.held.Given as goal

abbrev pub invariant-loop-point : goal.invariant-loop-point
invariant-loop-point l = l.total ≡ sum_by (worth l.board l.colour) (take l.point-index l.counted)
