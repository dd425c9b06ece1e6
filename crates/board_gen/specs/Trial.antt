-- The boards that numbers draw, of 25 columns and 25 rows. Columns and rows count from 0.
use Rattle.std.specs.Prelude.{◌≡◌, ◌≢◌, ℕ, zero, suc, ◌+◌, ◌-◌, ◌*◌, ◌/◌, ◌%◌, ◌<◌, ◌≤◌, ◌⊎◌, List, [], length, slice_index, codes}
use Rattle.go_grid.specs.declared.grid.TheConstants.{MOST_POINTS}
use Rattle.go_grid.specs.declared.grid.Cell.{Cell}
use Rattle.go_grid.specs.declared.grid.Cell.TheVariants as cell
use Rattle.go_grid.specs.declared.grid.Colour.{Colour}
use Rattle.go_grid.specs.declared.grid.Colour.TheVariants as colour
use Rattle.go_grid.specs.Board.{Board, cell_at, stone}

-- the numbers that a number draws, each from the one before
abbrev pub draw : ℕ → ℕ → ℕ
draw number zero = number % 65537
draw number (suc j) = (75 * draw number j + 74) % 65537

-- whose column it is: White has columns 8 to 15, and Black all others
abbrev pub IsOwner : ℕ → Colour → Type 0
IsOwner column colour.Black = (column < 8) ⊎ (16 ≤ column)
IsOwner column colour.White = (8 ≤ column) × (column < 16)

-- whose corridor it is for which `x` was drawn
abbrev pub IsCorridorOwner : ℕ → Colour → Type 0
IsCorridorOwner x colour.Black = x % 8 < 4
IsCorridorOwner x colour.White = 4 ≤ x % 8

-- the number of points of a corridor for which `x` was drawn
abbrev pub corridor_length : ℕ → ℕ
corridor_length x = x % 8 % 4

-- The columns of corridor `j`, of `k` points: the `k` columns of its owner next to the border between columns 7 and 8 where `j` is odd,
-- and between columns 15 and 16 where it is even.
abbrev pub IsCorridorColumn : Colour → ℕ → ℕ → ℕ → Type 0
IsCorridorColumn colour.Black j k column =
    ((j % 2 ≡ 1) × (8 ≤ column + k) × (column < 8)) ⊎ ((j % 2 ≡ 0) × (16 ≤ column) × (column < 16 + k))
IsCorridorColumn colour.White j k column =
    ((j % 2 ≡ 1) × (8 ≤ column) × (column < 8 + k)) ⊎ ((j % 2 ≡ 0) × (16 ≤ column + k) × (column < 16))

-- the point is in corridor `j`, for which `x` was drawn
pub record IsInCorridor (x j p : ℕ) : Type 0 where
  pub row : p / 25 ≡ 3 * ((j - 1) / 2) + 1
  pub owner : Colour
  pub owned : IsCorridorOwner x owner
  pub column : IsCorridorColumn owner j (corridor_length x) (p % 25)

-- the point is in one of the number's corridors
abbrev pub IsInSomeCorridor : ℕ → ℕ → Type 0
IsInSomeCorridor number p = (j : ℕ) × (1 ≤ j) × (j ≤ 16) × IsInCorridor (draw number j) j p

-- `X` (88) draws a black stone, `O` (79) a white one, and another letter none
abbrev pub IsDrawnBy : ℕ → Cell → Type 0
IsDrawnBy letter cell.Empty = (letter ≢ 88) × (letter ≢ 79)
IsDrawnBy letter cell.Black = letter ≡ 88
IsDrawnBy letter cell.White = letter ≡ 79

-- the letters that draw row 24 of each board
abbrev pub last_row : List ℕ
last_row = codes ".X.XXXXXO..O.O.OX.X.XXXXX"

-- What a point holds: in the last row what is drawn there, and else a stone of its column's owner, or none in a corridor.
pub record IsTrialCell (number p : ℕ) (held : Cell) : Type 0 where
  pub last : p / 25 ≡ 24 → IsDrawnBy (slice_index last_row (p % 25)) held
  pub corridor : p / 25 < 24 → IsInSomeCorridor number p → held ≡ cell.Empty
  pub wall : (c : Colour) → p / 25 < 24 → ¬ IsInSomeCorridor number p → IsOwner (p % 25) c → held ≡ stone c

-- the board that the number draws, on which nothing is declared
pub record IsTrialBoard (number : ℕ) (g : Board) : Type 0 where
  pub columns : g.columns ≡ 25
  pub rows : g.rows ≡ 25
  pub full : length g.cells ≡ MOST_POINTS
  pub declared : g.declared ≡ []
  pub each : (p : ℕ) → p < MOST_POINTS → IsTrialCell number p (cell_at g p)
