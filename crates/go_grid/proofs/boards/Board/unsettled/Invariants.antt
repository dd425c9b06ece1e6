use Rattle.std.proofs.Common.{ℕ, ◌<◌}
use Rattle.go_grid.specs.inner.Settled.{IsSettledAt}
use Rattle.go_grid.proofs.boards.Board.unsettled.Given as goal

abbrev pub invariant-loop-number : goal.invariant-loop-number
invariant-loop-number l = (p : ℕ) → p < l.number → IsSettledAt l.self p
