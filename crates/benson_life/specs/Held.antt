-- What the counted points of a colour are worth.
use Rattle.std.specs.Prelude.{◌≡◌, ◌+◌, ◌*◌, ℕ, List, length}
use Rattle.go_grid.specs.declared.grid.Cell.{Cell}
use Rattle.go_grid.specs.declared.grid.Cell.TheVariants as cell
use Rattle.go_grid.specs.declared.grid.Colour.{Colour}
use Rattle.go_grid.specs.declared.grid.Colour.TheVariants as colour
use Rattle.go_grid.specs.Board.{Board, HasStone, IsEmpty, cell_at, other}
use Rattle.go_grid.specs.Marks.{Lists}
use Rattle.benson_life.specs.Life.{IsCounted}

-- to a colour an empty cell is worth 1, and a stone of the other colour 2
abbrev pub cell_worth : Colour → Cell → ℕ
cell_worth c cell.Empty = 1
cell_worth colour.Black cell.White = 2
cell_worth colour.Black cell.Black = 0
cell_worth colour.White cell.Black = 2
cell_worth colour.White cell.White = 0

-- what the cell at a point is worth
abbrev pub worth : Board → Colour → ℕ → ℕ
worth g c p = cell_worth c (cell_at g p)

-- there are `n` points of `P`
abbrev pub HasPoints : (ℕ → Type 0) → ℕ → Type 0
HasPoints P n = (points : List ℕ) × Lists points P × (length points ≡ n)

-- the number of empty points counted for the colour, and twice the number of the other colour's stones on such points
pub record IsHeld (g : Board) (c : Colour) (n : ℕ) : Type 0 where
  pub empty : ℕ
  pub captive : ℕ
  pub empties : HasPoints (λ p. IsCounted g c p × IsEmpty g p) empty
  pub captives : HasPoints (λ p. IsCounted g c p × HasStone g (other c) p) captive
  pub sum : n ≡ empty + 2 * captive
