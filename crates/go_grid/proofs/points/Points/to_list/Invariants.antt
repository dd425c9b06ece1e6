use Rattle.go_grid.specs.Marks.{IsMarked}
use Rattle.go_grid.proofs.PointsLemmas.{ListsBelow}
use Rattle.go_grid.proofs.points.Points.to_list.Given as goal

abbrev pub invariant-loop-number : goal.invariant-loop-number
invariant-loop-number l = ListsBelow l.points.items (IsMarked l.self) l.number
