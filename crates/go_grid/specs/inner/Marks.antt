-- A set of points that no step leaves.
use Rattle.std.specs.Prelude.{ℕ, List, Bool}
use Rattle.go_grid.specs.Marks.{IsMarked, Touches}

-- each point of `within` that is next to a marked point is marked
abbrev pub IsClosed : ℕ → List Bool → List Bool → Type 0
IsClosed columns within marks = (p : ℕ) → IsMarked within p → Touches columns marks p → IsMarked marks p
