-- When two local positions have one shape.
--
-- A local position is the touches of a region and a list of cells, one for each place.
use Rattle.std.specs.Prelude.{◌≡◌, ℕ, ◌<◌, ◌↔◌, List, Bool, true, false, Option, Some, length, slice_index}
use Rattle.go_grid.specs.declared.grid.Cell.{Cell}
use Rattle.go_grid.specs.declared.grid.Cell.TheVariants as cell
use Rattle.go_grid.specs.declared.grid.Colour.{Colour}
use Rattle.go_grid.specs.declared.region.Touch.{Touch}
use Rattle.go_grid.specs.Board.{other}
use Rattle.go_grid.specs.Region.{touch_at}
use Rattle.local_play.specs.LocalPlay.{held_at, is_beside}
use Rattle.region_book.specs.declared.symmetry.Symmetry.{Symmetry}

-- where a link leads on the board
pub data Direction : Type 0 where
  up : Direction
  left : Direction
  right : Direction
  down : Direction

-- the place to which a place is linked in the direction, if there is one
abbrev pub link : Touch → Direction → Option ℕ
link t up = t.up
link t left = t.left
link t right = t.right
link t down = t.down

-- what becomes of a direction where columns and rows change places
abbrev pub exchanged : Bool → Direction → Direction
exchanged false d = d
exchanged true up = left
exchanged true left = up
exchanged true right = down
exchanged true down = right

-- what becomes of a direction where the columns go the other way
abbrev pub columns_over : Bool → Direction → Direction
columns_over false d = d
columns_over true up = up
columns_over true left = right
columns_over true right = left
columns_over true down = down

-- what becomes of a direction where the rows go the other way
abbrev pub rows_over : Bool → Direction → Direction
rows_over false d = d
rows_over true up = down
rows_over true left = left
rows_over true right = right
rows_over true down = up

-- the direction that a symmetry of the square makes of a direction
abbrev pub turned : Symmetry → Direction → Direction
turned s d = rows_over s.rows (columns_over s.columns (exchanged s.exchange d))

-- the colour, or the other one where colours are exchanged
abbrev pub colour_after : Bool → Colour → Colour
colour_after false c = c
colour_after true c = other c

-- the cell, or the one with a stone of the other colour where colours are exchanged
abbrev pub cell_after : Bool → Cell → Cell
cell_after false x = x
cell_after true cell.Empty = cell.Empty
cell_after true cell.Black = cell.White
cell_after true cell.White = cell.Black

-- The pairing carries the first position onto the second, turned by the symmetry, with the colours exchanged or not: it
-- pairs the places one to one and leaves none over, and partners have the same links, cells and alive neighbours.
pub record Carries (touch : List Touch) (cells : List Cell) (touch' : List Touch) (cells' : List Cell) (Paired : ℕ → ℕ → Type 0)
    (s : Symmetry) (colours : Bool) : Type 0 where
  pub inside : (i j : ℕ) → Paired i j → (i < length touch) × (j < length touch')
  pub first : (i : ℕ) → i < length touch → (j : ℕ) × Paired i j
  pub second : (j : ℕ) → j < length touch' → (i : ℕ) × Paired i j
  pub one : (i j k l : ℕ) → Paired i j → Paired k l → (i ≡ k) ↔ (j ≡ l)
  pub links : (i j k l : ℕ) → Paired i j → Paired k l → (d : Direction)
      → (link (touch_at touch i) d ≡ Some k) ↔ (link (touch_at touch' j) (turned s d) ≡ Some l)
  pub held : (i j : ℕ) → Paired i j → held_at cells' j ≡ cell_after colours (held_at cells i)
  pub beside : (i j : ℕ) → Paired i j → (c : Colour)
      → is_beside (touch_at touch' j) (colour_after colours c) ≡ is_beside (touch_at touch i) c

-- the list has the partner of each place
abbrev pub IsPartner : List ℕ → ℕ → ℕ → Type 0
IsPartner partners i j = (i < length partners) × (slice_index partners i ≡ j)

-- some pairing carries the one position onto the other
abbrev pub HaveOneShape : List Touch → List Cell → List Touch → List Cell → Type 0
HaveOneShape touch cells touch' cells' =
    (partners : List ℕ) × (s : Symmetry) × (colours : Bool) × Carries touch cells touch' cells' (IsPartner partners) s colours
