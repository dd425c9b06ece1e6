-- That shapes tell which positions have one shape, and how the one is turned into the other.
use Rattle.std.specs.Prelude.{◌≡◌, ℕ, ◌<◌, ◌↔◌, List, Bool, true, false, length, slice_index}
use Rattle.go_grid.specs.declared.grid.Cell.{Cell}
use Rattle.go_grid.specs.Region.{Region}
use Rattle.region_book.specs.Shape.{Carries, HaveOneShape}
use Rattle.region_book.specs.Image.{IsShape}
use Rattle.region_book.specs.declared.spots.Spot.{Spot}
use Rattle.region_book.specs.declared.symmetry.Symmetry.{Symmetry}
use Rattle.region_book.specs.declared.shapes.Turn.{Turn}

-- exactly one of the two is true
abbrev pub differ : Bool → Bool → Bool
differ false b = b
differ true false = true
differ true true = false

-- place `i` of the one region and place `j` of the other are brought to the same place, each by its turn
abbrev pub Meet : Region → Turn → Region → Turn → ℕ → ℕ → Type 0
Meet r s q t i j = (i < length r.points) × (j < length q.points) × (slice_index t.places j ≡ slice_index s.places i)

-- positions have equal shapes exactly where they have one shape
abbrev pub TellsShapes : Region → List Cell → List Spot → Turn → Region → List Cell → List Spot → Turn → Type 0
TellsShapes r cells x s q cells' y t = IsShape r cells x s → IsShape q cells' y t
    → (x ≡ y) ↔ HaveOneShape r.touch cells q.touch cells'

-- where two positions have equal shapes, the places that their turns bring together are partners that carry the one onto the other
abbrev pub PairsPlaces : Region → List Cell → List Spot → Turn → Region → List Cell → List Spot → Turn → Type 0
PairsPlaces r cells x s q cells' y t = IsShape r cells x s → IsShape q cells' y t
    → x ≡ y → (turn : Symmetry) × Carries r.touch cells q.touch cells' (Meet r s q t) turn (differ s.colours t.colours)
