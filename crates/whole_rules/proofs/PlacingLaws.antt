-- The board with a new stone.
use Rattle.std.proofs.Common.{◌≡◌, ◌≢◌, ℕ, length}
use Rattle.std.proofs.lemmas.List.{get_or-set_other, length-set}
use Rattle.go_grid.specs.declared.grid.Cell.TheVariants as cell
use Rattle.go_grid.specs.declared.grid.Colour.{Colour}
use Rattle.go_grid.specs.Board.{Board, cell_at, stone}
use Rattle.go_play.specs.inner.Place.{with_stone}

pub elsewhere : (g : Board) (p q : ℕ) (c : Colour) → q ≢ p → cell_at (with_stone g p c) q ≡ cell_at g q
elsewhere g p q c ne = get_or-set_other g.cells p q (stone c) cell.Empty ne

pub as_long : (g : Board) (p : ℕ) (c : Colour) → length (with_stone g p c).cells ≡ length g.cells
as_long g p c = length-set g.cells p (stone c)
