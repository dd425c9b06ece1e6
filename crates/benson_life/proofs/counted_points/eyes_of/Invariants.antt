use Rattle.go_grid.specs.Marks.{Marks}
use Rattle.go_grid.proofs.PointsLemmas.{Noted}
use Rattle.benson_life.proofs.EyeListLemmas.{KeptAt}
use Rattle.benson_life.proofs.counted_points.eyes_of.Given as goal

abbrev pub invariant-loop-eye : goal.invariant-loop-eye
invariant-loop-eye l = Marks l.found (Noted (KeptAt l.eyes l.breached l.kept) l.eye-index)
