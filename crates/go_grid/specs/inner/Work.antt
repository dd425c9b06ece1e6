-- The work of a fill: the points that it has met, marked and in a list.
use Rattle.std.specs.Prelude.{◌≡◌, ℕ, ◌<◌, ◌≤◌, ◌⊎◌, List, Bool, Some, slice_index, count_by}
use Rattle.go_grid.specs.declared.grid.TheConstants.{MOST_POINTS}
use Rattle.go_grid.specs.declared.fills.Work.{Work}
use Rattle.go_grid.specs.declared.near_points.Near.{Near}
use Rattle.go_grid.specs.Board.{NextTo}
use Rattle.go_grid.specs.Walk.{Joined}
use Rattle.go_grid.specs.Marks.{IsMarked}
use Rattle.go_grid.specs.inner.Marks.{IsClosed}

-- from place `from` on the point is on the list
abbrev pub IsListed : ℕ → Work → ℕ → Type 0
IsListed from w p = (i : ℕ) × (from ≤ i) × (i < w.count) × (slice_index w.points i ≡ p)

-- the points met are points of the set, each is listed once, and no step within the set leads out of them
pub record IsFilled (columns : ℕ) (within : List Bool) (w : Work) : Type 0 where
  pub inside : (p : ℕ) → IsMarked w.marks p → IsMarked within p
  pub listed : (i : ℕ) → i < w.count → IsMarked w.marks (slice_index w.points i)
  pub counted : count_by (λ m. m) w.marks ≡ w.count
  pub most : w.count ≤ MOST_POINTS
  pub closed : IsClosed columns within w.marks

-- A fill from `start` is under way: `before` was met when it began with place `from` of the list, and the points from place
-- `done` on wait for a look at their neighbours.
pub record IsFilling (columns : ℕ) (within before : List Bool) (start from done : ℕ) (w : Work) : Type 0 where
  pub inside : (p : ℕ) → IsMarked w.marks p → IsMarked within p
  pub listed : (i : ℕ) → i < w.count → IsMarked w.marks (slice_index w.points i)
  pub counted : count_by (λ m. m) w.marks ≡ w.count
  pub most : w.count ≤ MOST_POINTS
  pub kept : (p : ℕ) → IsMarked before p → IsMarked w.marks p
  pub met : (p : ℕ) → IsMarked w.marks p → IsMarked before p ⊎ (Joined columns (IsMarked within) start p × IsListed from w p)
  pub earlier : (i : ℕ) → from ≤ i → i < w.count → Joined columns (IsMarked within) start (slice_index w.points i)
  pub spread : (p q : ℕ) → IsMarked w.marks p → ¬ IsListed done w p → NextTo columns p q → IsMarked within q → IsMarked w.marks q

-- `q` is one of the neighbours above, left, right and below
abbrev pub IsNear : Near → ℕ → Type 0
IsNear near q = (near.up ≡ Some q) ⊎ ((near.left ≡ Some q) ⊎ ((near.right ≡ Some q) ⊎ (near.down ≡ Some q)))
