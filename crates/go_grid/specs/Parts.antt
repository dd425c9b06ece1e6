-- The parts of a set of points: what walks over the set join.
use Rattle.std.specs.Prelude.{◌≡◌, ℕ, ◌≤◌, List, slice_index_or}
use Rattle.go_grid.specs.Walk.{Joined}

-- the label of a point, 0 past the end of the list
abbrev pub label : List ℕ → ℕ → ℕ
label labels p = slice_index_or labels p 0

-- each point of the set has as its label the lowest point of its part
pub record ArePartLabels (columns : ℕ) (In : ℕ → Type 0) (labels : List ℕ) : Type 0 where
  pub joined : (p : ℕ) → In p → Joined columns In p (label labels p)
  pub same : (p q : ℕ) → Joined columns In p q → label labels p ≡ label labels q
  pub lowest : (p : ℕ) → In p → label labels p ≤ p
