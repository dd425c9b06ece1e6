-- Sets of points for both colours, and what loops over them keep.
use Rattle.std.specs.Prelude.{◌≡◌, ℕ, ◌<◌, ◌≤◌, ◌⊎◌, List, Bool, Any, Option, None, length, slice_index_or}
use Rattle.sgf_tree.specs.Grammar.{PropertyText}
use Rattle.go_grid.specs.declared.grid.Colour.{Colour}
use Rattle.go_grid.specs.declared.grid.Colour.TheVariants.{Black, White}
use Rattle.go_grid.specs.Board.{Board, cell_at}
use Rattle.go_grid.specs.Marks.{IsMarked, Marks}
use Rattle.sgf_go.specs.Territory.{Becomes, IsMarkedFor, IsOnEdge, Marking}
use Rattle.sgf_go.specs.declared.marks.MarkedPoints.{MarkedPoints}

-- the colour's points
abbrev pub marks_of : MarkedPoints → Colour → List Bool
marks_of m Black = m.black
marks_of m White = m.white

-- the sets as a marking
abbrev pub marking : MarkedPoints → Marking
marking m c = IsMarked (marks_of m c)

-- the sets have just the points that the node marks for each colour
abbrev pub AreMarked : List PropertyText → Board → MarkedPoints → Type 0
AreMarked ps g m = (c : Colour) → Marks (marks_of m c) (IsMarkedFor ps g c)

-- the sets have just the edges of a marking
abbrev pub AreEdges : Board → Marking → MarkedPoints → Type 0
AreEdges g M m = (c : Colour) → Marks (marks_of m c) (IsOnEdge g M c)

-- just the points that `x` names are added, and `x` isn't bad
pub record Adds {A : Type 0} (Has : ℕ → A → Type 0) (Bad : A → Type 0) (x : A) (before after : List Bool) : Type 0 where
  pub marks : Marks after (λ p. IsMarked before p ⊎ Has p x)
  pub good : ¬ Bad x

-- just the points that some item names are added, and no item is bad
pub record AddsAll {A : Type 0} (Has : ℕ → A → Type 0) (Bad : A → Type 0) (xs : List A) (before after : List Bool) : Type 0 where
  pub marks : Marks after (λ p. IsMarked before p ⊎ Any (Has p) xs)
  pub good : ¬ Any Bad xs

-- what is sealed of the board `g` so far: `h` and the list of declared points have what each point below `n` becomes
pub record SealsBelow (M Edge : Marking) (g : Board) (n : ℕ) (h : Board) (declared : List (Option Colour)) : Type 0 where
  pub columns : h.columns ≡ g.columns
  pub rows : h.rows ≡ g.rows
  pub long : length h.cells ≡ length g.cells
  pub listed : length declared ≡ n
  pub done : (p : ℕ) → p < n → Becomes M Edge p (cell_at g p) (cell_at h p) (slice_index_or declared p None)
  pub rest : (p : ℕ) → n ≤ p → cell_at h p ≡ cell_at g p
