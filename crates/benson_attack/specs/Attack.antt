-- Attacks: placings of the other colour, none of them answered or at a declared point, that take a stone off the board.
use Rattle.std.specs.Prelude.{◌≢◌, ◌≤◌, ℕ, List, [], length}
use Rattle.go_grid.specs.declared.grid.Colour.{Colour}
use Rattle.go_grid.specs.Board.{Board, HasStone, other}
use Rattle.go_play.specs.Place.{Placings}

-- legal placings of the other colour outside declared points, no more than the board has points, after which the point holds no stone of the colour
pub record IsAttack (g : Board) (c : Colour) (s : ℕ) (placings : List ℕ) : Type 0 where
  pub some : placings ≢ []
  pub short : length placings ≤ length g.cells
  pub left : Board
  pub legal : Placings (other c) g placings left
  pub gone : ¬ HasStone left c s
