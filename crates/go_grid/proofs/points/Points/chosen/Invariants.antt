use Rattle.go_grid.specs.Marks.{AreChosen}
use Rattle.go_grid.proofs.points.Points.chosen.Given as goal

abbrev pub invariant-loop-at : goal.invariant-loop-at
invariant-loop-at g l = AreChosen l.at (goal.F-post g l.test) l.points
