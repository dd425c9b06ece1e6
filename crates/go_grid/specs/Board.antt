-- Boards: columns, rows, a list of cells, row by row from the top left, and the points that are declared for a colour.
use Rattle.std.specs.Prelude.{◌≡◌, ◌≢◌, ℕ, ◌+◌, ◌*◌, ◌/◌, ◌%◌, ◌<◌, ◌≤◌, ◌⊎◌, ◌↔◌, List, Contains, length, slice_index_or, Option, None, Some}
use Rattle.go_grid.specs.declared.grid.Cell.{Cell}
use Rattle.go_grid.specs.declared.grid.Cell.TheVariants as cell
use Rattle.go_grid.specs.declared.grid.Colour.{Colour}
use Rattle.go_grid.specs.declared.grid.Colour.TheVariants as colour

-- a board: its columns, its rows, its cells row by row from the top left, and for each point the colour for which the players
-- declare it; the points past the end of that list are declared for nobody
pub record Board : Type 0 where
  pub columns : ℕ
  pub rows : ℕ
  pub cells : List Cell
  pub declared : List (Option Colour)

-- 1 to 25 columns and rows, and a cell for each point
pub record IsBoard (g : Board) : Type 0 where
  pub some_columns : 1 ≤ g.columns
  pub most_columns : g.columns ≤ 25
  pub some_rows : 1 ≤ g.rows
  pub most_rows : g.rows ≤ 25
  pub full : length g.cells ≡ g.columns * g.rows

-- one of the two numbers is one more than the other
abbrev pub DifferByOne : ℕ → ℕ → Type 0
DifferByOne a b = (a + 1 ≡ b) ⊎ (b + 1 ≡ a)

-- two points are next to each other when they differ by one in exactly one of column and row
abbrev pub NextTo : ℕ → ℕ → ℕ → Type 0
NextTo columns p q =
    ((p / columns ≡ q / columns) × DifferByOne (p % columns) (q % columns))
    ⊎ ((p % columns ≡ q % columns) × DifferByOne (p / columns) (q / columns))

-- `q` is directly above `p`
abbrev pub IsAbove : ℕ → ℕ → ℕ → Type 0
IsAbove columns p q = (q / columns + 1 ≡ p / columns) × (q % columns ≡ p % columns)

-- `q` is directly left of `p`
abbrev pub IsLeftOf : ℕ → ℕ → ℕ → Type 0
IsLeftOf columns p q = (q / columns ≡ p / columns) × (q % columns + 1 ≡ p % columns)

-- the point of the board of which `Is` holds, where there is one
abbrev pub IsThe : ℕ → (ℕ → Type 0) → Option ℕ → Type 0
IsThe area Is None = (q : ℕ) → q < area → ¬ Is q
IsThe area Is (Some q) = (q < area) × Is q

-- The neighbours of `p` in the four directions, on a board of `area` points: no other point of the board is next to `p`.
pub record AreNear (columns area p : ℕ) (up left right down : Option ℕ) : Type 0 where
  pub above : IsThe area (λ q. IsAbove columns p q) up
  pub before : IsThe area (λ q. IsLeftOf columns p q) left
  pub after : IsThe area (λ q. IsLeftOf columns q p) right
  pub below : IsThe area (λ q. IsAbove columns q p) down
  pub next : (q : ℕ) → ((q < area) × NextTo columns p q)
      ↔ ((up ≡ Some q) ⊎ ((left ≡ Some q) ⊎ ((right ≡ Some q) ⊎ (down ≡ Some q))))

-- the list has exactly the points of a board of `area` points that are next to `p`
abbrev pub AreAround : ℕ → ℕ → ℕ → List ℕ → Type 0
AreAround columns area p points = (q : ℕ) → Contains points q ↔ ((q < area) × NextTo columns p q)

-- the cell at a point of the board, empty past the last point
abbrev pub cell_at : Board → ℕ → Cell
cell_at g p = slice_index_or g.cells p cell.Empty

-- the cell with a stone of the colour
abbrev pub stone : Colour → Cell
stone colour.Black = cell.Black
stone colour.White = cell.White

-- the other colour
abbrev pub other : Colour → Colour
other colour.Black = colour.White
other colour.White = colour.Black

-- `p` is a point of the board with a stone of the colour
abbrev pub HasStone : Board → Colour → ℕ → Type 0
HasStone g c p = (p < length g.cells) × (cell_at g p ≡ stone c)

-- `p` is an empty point of the board
abbrev pub IsEmpty : Board → ℕ → Type 0
IsEmpty g p = (p < length g.cells) × (cell_at g p ≡ cell.Empty)

-- a point of the board with no stone of the colour
abbrev pub Lacks : Board → Colour → ℕ → Type 0
Lacks g c p = (p < length g.cells) × (cell_at g p ≢ stone c)

-- the colour for which a point is declared, if it is
abbrev pub declared_at : Board → ℕ → Option Colour
declared_at g p = slice_index_or g.declared p None

-- `p` is a point of the board that is declared for the colour
abbrev pub IsDeclared : Board → Colour → ℕ → Type 0
IsDeclared g c p = (p < length g.cells) × (declared_at g p ≡ Some c)

-- the point is declared for neither colour
abbrev pub IsUndeclared : Board → ℕ → Type 0
IsUndeclared g p = (c : Colour) → ¬ IsDeclared g c p

-- no point is declared
abbrev pub DeclaresNothing : Board → Type 0
DeclaresNothing g = (p : ℕ) → IsUndeclared g p

-- the point is empty, and each point of the board next to it is declared for the colour or holds a stone of it
pub record IsClosedOffAt (g : Board) (c : Colour) (p : ℕ) : Type 0 where
  pub empty : IsEmpty g p
  pub around : (q : ℕ) → q < length g.cells → NextTo g.columns p q → IsDeclared g c q ⊎ HasStone g c q

-- each declared point is closed off for its colour
abbrev pub IsClosedOff : Board → Type 0
IsClosedOff g = (c : Colour) (p : ℕ) → IsDeclared g c p → IsClosedOffAt g c p
