use Rattle.go_grid.specs.Marks.{Marks}
use Rattle.go_grid.proofs.PointsLemmas.{Noted}
use Rattle.benson_life.proofs.EyeListLemmas.{SecondAt}
use Rattle.benson_life.proofs.living_chains.two_eyed.Given as goal

abbrev pub invariant-loop-eye : goal.invariant-loop-eye
invariant-loop-eye l = Marks l.found (Noted (SecondAt l.eyes l.breached l.one) l.eye-index)
