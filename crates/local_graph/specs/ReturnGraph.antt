-- What a contract sees of a graph whose moves may return.
use Rattle.std.specs.Prelude.{◌≡◌, ◌≢◌, ℕ, ◌<◌, ◌↔◌, List, [], length, slice_index, slice_index_or, Contains, Option, None, Some}
use Rattle.std.specs.List.{AllPairs}
use Rattle.go_grid.specs.declared.grid.Cell.{Cell}
use Rattle.go_grid.specs.declared.grid.Colour.{Colour}
use Rattle.go_grid.specs.declared.grid.Colour.TheVariants.{Black, White}
use Rattle.go_grid.specs.declared.region.Touch.{Touch}
use Rattle.local_play.specs.Packed.{pack}
use Rattle.local_graph.specs.declared.graph.Edge.{Edge}
use Rattle.local_graph.specs.LocalGraph.{IsReachable}
use Rattle.local_graph.specs.Returns.{Returns}

-- its positions as numbers, the edges of each, the component of each where there is a cycle, and its nodes in an order for each
-- colour
pub record ReturnGraph : Type 0 where
  pub positions : List ℕ
  pub edges : List (List Edge)
  pub components : Option (List ℕ)
  pub black_order : List ℕ
  pub white_order : List ℕ

-- the order for the colour
abbrev pub order_for : ReturnGraph → Colour → List ℕ
order_for g Black = g.black_order
order_for g White = g.white_order

-- the edge of the place leads to a place of the same component; where there are no components, no edge does
abbrev pub StaysIn : Option (List ℕ) → ℕ → Edge → Type 0
StaysIn None i e = ⊥
StaysIn (Some components) i e = slice_index components e.next ≡ slice_index components i

-- an edge stays in its component exactly where its move returns
abbrev pub TellReturns : List Touch → List Cell → List ℕ → List (List Edge) → Option (List ℕ) → Type 0
TellReturns touch opening positions edges components = (i : ℕ) (e : Edge) (from to : List Cell) → i < length positions
    → Contains (slice_index_or edges i []) e → IsReachable touch opening from → IsReachable touch opening to
    → slice_index positions i ≡ pack from → slice_index positions e.next ≡ pack to → StaysIn components i e ↔ Returns touch from to

-- the edge of the place is a capture by the colour that returns
abbrev pub IsReturningCaptureAt : Colour → Option (List ℕ) → ℕ → Edge → Type 0
IsReturningCaptureAt c components i e = (e.colour ≡ c) × (0 < e.taken) × StaysIn components i e

-- Each place once, and each edge but the returning captures by the colour leads to one that stands earlier.
pub record IsOrderBetweenCaptures (c : Colour) (edges : List (List Edge)) (components : Option (List ℕ)) (order : List ℕ) : Type 0 where
  pub once : AllPairs (λ a b. a ≢ b) order
  pub inside : (k : ℕ) → k < length order → slice_index order k < length edges
  pub every : (i : ℕ) → i < length edges → Contains order i
  pub ends_first : (k : ℕ) (e : Edge) → k < length order → Contains (slice_index_or edges (slice_index order k) []) e
      → ¬ IsReturningCaptureAt c components (slice_index order k) e → (j : ℕ) × (j < k) × (slice_index order j ≡ e.next)
