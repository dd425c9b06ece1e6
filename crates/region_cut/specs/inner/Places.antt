-- Places of points in a list, and what is next to a point.
use Rattle.std.specs.Prelude.{◌≡◌, ℕ, ◌<◌, ◌↔◌, List, Bool, true, length, slice_index, Contains, Option, None, Some}
use Rattle.go_grid.specs.declared.region.Touch.{Touch}
use Rattle.go_grid.specs.Marks.{Touches}
use Rattle.go_grid.specs.Region.{AreLinks}

-- the place of the point in the list, where there is one
abbrev pub IsPlace : List ℕ → Option ℕ → Option ℕ → Type 0
IsPlace points o None = (p : ℕ) → o ≡ Some p → ¬ Contains points p
IsPlace points o (Some j) = (j < length points) × (o ≡ Some (slice_index points j))

-- whether marked stones of each colour are next to the point, and its links
pub record IsTouch (columns : ℕ) (points : List ℕ) (blacks whites : List Bool) (p : ℕ) (t : Touch) : Type 0 where
  pub black : (t.black ≡ true) ↔ Touches columns blacks p
  pub white : (t.white ≡ true) ↔ Touches columns whites p
  pub links : AreLinks columns points p t
