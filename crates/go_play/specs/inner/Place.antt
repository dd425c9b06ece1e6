-- A board with one more stone.
use Rattle.std.specs.Prelude.{ℕ}
use Rattle.go_grid.specs.declared.grid.Colour.{Colour}
use Rattle.go_grid.specs.Board.{Board}
use Rattle.go_grid.specs.Play as play

-- the board with a stone more
abbrev pub with_stone : Board → ℕ → Colour → Board
with_stone g p c = record g { cells = play.with_stone g.cells p c }
