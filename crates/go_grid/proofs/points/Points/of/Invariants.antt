use Rattle.std.proofs.Common.{◌≡◌, get_or}
use Rattle.go_grid.specs.Marks.{Marks}
use Rattle.go_grid.proofs.PointsLemmas.{Noted}
use Rattle.go_grid.proofs.points.Points.of.Given as goal

abbrev pub invariant-loop-point : goal.invariant-loop-point
invariant-loop-point l = Marks l.points (Noted (λ i x. get_or l.list i 0 ≡ x) l.point-index)
