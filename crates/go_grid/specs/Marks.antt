-- Sets of points, as a list of marks.
use Rattle.std.specs.Prelude.{◌≡◌, ℕ, ◌<◌, ◌↔◌, List, Bool, true, false, slice_index_or, Contains}
use Rattle.std.specs.List.Sorted.{IsStrictlyIncreasing}
use Rattle.go_grid.specs.Board.{NextTo}

-- the point is marked; past the end of the list none is
abbrev pub IsMarked : List Bool → ℕ → Type 0
IsMarked marks p = slice_index_or marks p false ≡ true

-- some point next to `p` is marked
abbrev pub Touches : ℕ → List Bool → ℕ → Type 0
Touches columns marks p = (q : ℕ) × NextTo columns p q × IsMarked marks q

-- no point from `area` on is marked
abbrev pub IsWithin : ℕ → List Bool → Type 0
IsWithin area marks = (p : ℕ) → IsMarked marks p → p < area

-- the marked points are exactly those of `P`
abbrev pub Marks : List Bool → (ℕ → Type 0) → Type 0
Marks marks P = (p : ℕ) → IsMarked marks p ↔ P p

-- the list has exactly the points of `P`, in ascending order
pub record Lists (points : List ℕ) (P : ℕ → Type 0) : Type 0 where
  pub ascending : IsStrictlyIncreasing points
  pub exact : (p : ℕ) → Contains points p ↔ P p

-- below `n` exactly the points are marked for which the answer was true, and none from `n` on
pub record AreChosen (n : ℕ) (Answers : ℕ → Bool → Type 0) (marks : List Bool) : Type 0 where
  pub within : IsWithin n marks
  pub each : (p : ℕ) → p < n → (answer : Bool) × Answers p answer × ((answer ≡ true) ↔ IsMarked marks p)
