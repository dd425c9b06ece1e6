-- What one point has to do with a settled board.
use Rattle.std.specs.Prelude.{ℕ}
use Rattle.go_grid.specs.declared.grid.Colour.{Colour}
use Rattle.go_grid.specs.Board.{Board, HasStone, IsClosedOffAt, IsDeclared}
use Rattle.go_grid.specs.Chain.{HasLiberty}

-- the chain of a stone at the point has a liberty, and the point is closed off where it is declared
pub record IsSettledAt (g : Board) (p : ℕ) : Type 0 where
  pub breathe : (c : Colour) → HasStone g c p → HasLiberty g c p
  pub closed : (c : Colour) → IsDeclared g c p → IsClosedOffAt g c p
