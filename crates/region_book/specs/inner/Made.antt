-- What the code of a shape keeps.
use Rattle.std.specs.Prelude.{◌≡◌, ℕ, ◌<◌, List, Bool, length, slice_index_or}
use Rattle.go_grid.specs.declared.grid.Cell.{Cell}
use Rattle.go_grid.specs.Region.{Region}
use Rattle.region_book.specs.Image.{IsOnBoard, IsImage, AtMost, Places, spot_of}
use Rattle.region_book.specs.declared.spots.Spot.{Spot}
use Rattle.region_book.specs.declared.symmetry.Symmetry.{Symmetry}
use Rattle.region_book.specs.declared.images.Image.{Image}

-- the list has what is known of each place
abbrev pub Spots : Region → List Cell → Symmetry → Bool → ℕ → ℕ → List Spot → Type 0
Spots r cells s colours left top xs = (length xs ≡ length r.points)
    × ((i : ℕ) (d : Spot) → i < length r.points → slice_index_or xs i d ≡ spot_of r cells s colours left top i)

-- the image is one of the position
abbrev pub IsImageOf : Region → List Cell → Image → Type 0
IsImageOf r cells m = IsImage r cells m.symmetry m.colours m.begin.column m.begin.row m.spots.items

-- the list has the place of the image for each place of the region
abbrev pub AreImagePlaces : Region → List Cell → Image → List ℕ → Type 0
AreImagePlaces r cells m places = Places r cells m.symmetry m.colours m.begin.column m.begin.row m.spots.items places

-- the image is one of the position, and the least of those that are among the ones named
pub record IsLeastAmong (r : Region) (cells : List Cell) (Among : Symmetry → Bool → Type 0) (m : Image) : Type 0 where
  pub board : IsOnBoard r
  pub image_is : IsImageOf r cells m
  pub long : length m.spots.items ≡ length r.points
  pub least : (s : Symmetry) (colours : Bool) (left top : ℕ) (found : List Spot) → Among s colours
      → IsImage r cells s colours left top found → AtMost m.spots.items found
