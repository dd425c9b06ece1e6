use Rattle.std.proofs.Common.{ℕ, ◌<◌}
use Rattle.go_grid.specs.Marks.{IsMarked}
use Rattle.go_grid.proofs.points.Points.is_empty.Given as goal

abbrev pub invariant-loop-mark : goal.invariant-loop-mark
invariant-loop-mark l = (p : ℕ) → p < l.mark-index → ¬ IsMarked l.self p
