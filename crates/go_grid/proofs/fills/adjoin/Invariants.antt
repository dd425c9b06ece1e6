use Rattle.std.proofs.Common.{ℕ, ◌<◌}
use Rattle.go_grid.specs.Marks.{IsMarked, Touches}
use Rattle.go_grid.proofs.fills.adjoin.Given as goal

abbrev pub invariant-loop-number : goal.invariant-loop-number
invariant-loop-number l = (q : ℕ) → q < l.number → IsMarked l.marks q → ¬ Touches l.size.columns l.points q
