-- The images of a local position: its places, turned by a symmetry, in the order of rows and columns.
use Rattle.std.specs.Prelude.{◌≡◌, ℕ, ◌-◌, ◌/◌, ◌%◌, ◌<◌, ◌≤◌, ◌↔◌, List, Bool, true, false, Contains, length, slice_index, slice_index_or}
use Rattle.std.specs.Cmp.Lexicographic.{slice_cmp}
use Rattle.std.specs.List.{AllPairs}
use Rattle.std.specs.Ordering.{nat_cmp, bool_cmp, is_gt, on, then_cmp}
use Rattle.std.specs.declared.cmp.Ordering.{Ordering}
use Rattle.std.specs.declared.cmp.Ordering.TheVariants.{Less}
use Rattle.go_grid.specs.declared.grid.Cell.{Cell}
use Rattle.go_grid.specs.declared.grid.Colour.TheVariants.{Black, White}
use Rattle.go_grid.specs.Region.{Region, IsRegion, touch_at}
use Rattle.go_grid.specs.Stones.{is_of}
use Rattle.local_play.specs.LocalPlay.{held_at, is_beside}
use Rattle.region_book.specs.Shape.{cell_after, colour_after}
use Rattle.region_book.specs.declared.spots.Spot.{Spot}
use Rattle.region_book.specs.declared.symmetry.Symmetry.{Symmetry}
use Rattle.region_book.specs.declared.shapes.Turn.{Turn}

-- a region on a board of at most 25 columns and rows
pub record IsOnBoard (r : Region) : Type 0 where
  pub region : IsRegion r.columns r.rows r.points r.cells r.touch
  pub columns : r.columns ≤ 25
  pub rows : r.rows ≤ 25

-- a column or row of the largest board, counted from the other side where it is turned over
abbrev pub side : Bool → ℕ → ℕ
side false n = n
side true n = 24 - n

-- the first of two numbers, or the second where the two change places
abbrev pub one_of : Bool → ℕ → ℕ → ℕ
one_of false a b = a
one_of true a b = b

-- the column of a place of the region after a symmetry of the largest board
abbrev pub column_of : Region → Symmetry → ℕ → ℕ
column_of r s i = side s.columns (one_of s.exchange (slice_index r.points i % r.columns) (slice_index r.points i / r.columns))

-- the row of a place of the region after a symmetry of the largest board
abbrev pub row_of : Region → Symmetry → ℕ → ℕ
row_of r s i = side s.rows (one_of s.exchange (slice_index r.points i / r.columns) (slice_index r.points i % r.columns))

-- after the symmetry the region begins at the column and at the row
pub record BeginsAt (r : Region) (s : Symmetry) (left top : ℕ) : Type 0 where
  pub columns : (i : ℕ) → i < length r.points → left ≤ column_of r s i
  pub some_column : (i : ℕ) × (i < length r.points) × (column_of r s i ≡ left)
  pub rows : (i : ℕ) → i < length r.points → top ≤ row_of r s i
  pub some_row : (i : ℕ) × (i < length r.points) × (row_of r s i ≡ top)

-- the order of the places of an image: row by row, then by column, and then by what is there
abbrev pub spot_cmp : Spot → Spot → Ordering
spot_cmp = then_cmp (on (λ x. x.row) nat_cmp) (then_cmp (on (λ x. x.column) nat_cmp)
    (then_cmp (on (λ x. x.black) bool_cmp) (then_cmp (on (λ x. x.white) bool_cmp)
    (then_cmp (on (λ x. x.beside_black) bool_cmp) (on (λ x. x.beside_white) bool_cmp)))))

-- what is known of a place, where the region begins at the column and at the row
abbrev pub spot_of : Region → List Cell → Symmetry → Bool → ℕ → ℕ → ℕ → Spot
spot_of r cells s colours left top i = record {
  row = row_of r s i - top;
  column = column_of r s i - left;
  black = is_of Black (cell_after colours (held_at cells i));
  white = is_of White (cell_after colours (held_at cells i));
  beside_black = is_beside (touch_at r.touch i) (colour_after colours Black);
  beside_white = is_beside (touch_at r.touch i) (colour_after colours White);
}

-- `x` is what is known of some place of the region
abbrev pub IsSpot : Region → List Cell → Symmetry → Bool → ℕ → ℕ → Spot → Type 0
IsSpot r cells s colours left top x = (i : ℕ) × (i < length r.points) × (x ≡ spot_of r cells s colours left top i)

-- the image of the position, turned by the symmetry, with the colours exchanged or not: each of its places once, in their order
pub record IsImage (r : Region) (cells : List Cell) (s : Symmetry) (colours : Bool) (left top : ℕ) (image : List Spot) : Type 0 where
  pub begins : BeginsAt r s left top
  pub ascending : AllPairs (λ a b. spot_cmp a b ≡ Less) image
  pub exact : (x : Spot) → Contains image x ↔ IsSpot r cells s colours left top x

-- the first image doesn't come after the second, place by place
abbrev pub AtMost : List Spot → List Spot → Type 0
AtMost xs ys = is_gt (slice_cmp spot_cmp xs ys) ≡ false

-- the list has the place of the image for each place of the region
abbrev pub Places : Region → List Cell → Symmetry → Bool → ℕ → ℕ → List Spot → List ℕ → Type 0
Places r cells s colours left top image places = (i : ℕ) → i < length r.points
    → (slice_index places i < length image)
    × ((d : Spot) → slice_index_or image (slice_index places i) d ≡ spot_of r cells s colours left top i)

-- the turn makes the image of the position
pub record Makes (r : Region) (cells : List Cell) (t : Turn) (image : List Spot) : Type 0 where
  pub symmetry : Symmetry
  pub left : ℕ
  pub top : ℕ
  pub image_is : IsImage r cells symmetry t.colours left top image
  pub long : length image ≡ length r.points
  pub places : Places r cells symmetry t.colours left top image t.places
  pub past : (i : ℕ) → length r.points ≤ i → i < 32 → slice_index t.places i ≡ 0

-- The shape is the least of the sixteen images of the position on its board, and the turn makes it.
pub record IsShape (r : Region) (cells : List Cell) (image : List Spot) (t : Turn) : Type 0 where
  pub board : IsOnBoard r
  pub made : Makes r cells t image
  pub least : (s : Symmetry) (colours : Bool) (left top : ℕ) (found : List Spot) → IsImage r cells s colours left top found
      → AtMost image found
