use Rattle.std.proofs.Common.{ℕ, ◌<◌, ◌⊎◌, get_or}
use Rattle.go_grid.specs.Board.{HasStone, IsDeclared}
use Rattle.go_grid.proofs.boards.Board.is_closed_off_at.Given as goal

abbrev pub invariant-loop-near : goal.invariant-loop-near
invariant-loop-near l = (i : ℕ) → i < l.near-index
    → IsDeclared l.self l.colour (get_or l.near-items i 0) ⊎ HasStone l.self l.colour (get_or l.near-items i 0)
