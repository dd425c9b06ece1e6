-- Regions: points that walks over themselves join, what they hold, and what is next to each of them.
use Rattle.std.specs.Prelude.{◌≡◌, ℕ, ◌*◌, ◌<◌, List, length, slice_index, slice_index_or, Contains, Option, None, Some, true, false}
use Rattle.std.specs.List.Sorted.{IsStrictlyIncreasing}
use Rattle.go_grid.specs.declared.grid.Cell.{Cell}
use Rattle.go_grid.specs.declared.grid.Colour.{Colour}
use Rattle.go_grid.specs.declared.grid.Colour.TheVariants.{Black, White}
use Rattle.go_grid.specs.declared.region.Touch.{Touch}
use Rattle.go_grid.specs.Board.{IsAbove, IsLeftOf}
use Rattle.go_grid.specs.Walk.{Joined}

-- a region: the size of its board, its points, and for each of them what it holds and what is next to it
pub record Region : Type 0 where
  pub columns : ℕ
  pub rows : ℕ
  pub points : List ℕ
  pub cells : List Cell
  pub touch : List Touch

-- a place with nothing next to it
abbrev pub nothing_near : Touch
nothing_near = record { black = false; white = false; up = None; left = None; right = None; down = None }

-- what is next to a place of the region, nothing past the last place
abbrev pub touch_at : List Touch → ℕ → Touch
touch_at touch i = slice_index_or touch i nothing_near

-- an alive stone of the colour is next to the point
abbrev pub IsBeside : Colour → Touch → Type 0
IsBeside Black t = t.black ≡ true
IsBeside White t = t.white ≡ true

-- The link is the place of the point for which `Near` holds, and there is none exactly where no point of the list is such.
abbrev pub IsLink : List ℕ → (ℕ → Type 0) → Option ℕ → Type 0
IsLink points Near None = (q : ℕ) → Contains points q → ¬ Near q
IsLink points Near (Some j) = (j < length points) × Near (slice_index points j)

-- the links of a point are exactly the places of its neighbours that are points of the list
pub record AreLinks (columns : ℕ) (points : List ℕ) (p : ℕ) (t : Touch) : Type 0 where
  pub up : IsLink points (λ q. IsAbove columns p q) t.up
  pub left : IsLink points (λ q. IsLeftOf columns p q) t.left
  pub right : IsLink points (λ q. IsLeftOf columns q p) t.right
  pub down : IsLink points (λ q. IsAbove columns q p) t.down

-- ascending points of a board of the size that walks over themselves join, each with a cell and its links
pub record IsRegion (columns rows : ℕ) (points : List ℕ) (cells : List Cell) (touch : List Touch) : Type 0 where
  pub some : 0 < length points
  pub full : length cells ≡ length points
  pub beside : length touch ≡ length points
  pub ascending : IsStrictlyIncreasing points
  pub on_board : (p : ℕ) → Contains points p → p < columns * rows
  pub joined : (p q : ℕ) → Contains points p → Contains points q → Joined columns (Contains points) p q
  pub links : (i : ℕ) → i < length points → AreLinks columns points (slice_index points i) (touch_at touch i)
