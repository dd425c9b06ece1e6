-- What a search, components and ranks make of positions and edges.
use Rattle.std.specs.Prelude.{◌≡◌, ℕ, List, length, Option, None, Some}
use Rattle.go_grid.specs.declared.grid.Colour.TheVariants.{Black, White}
use Rattle.local_graph.specs.declared.graph.Edge.{Edge}
use Rattle.local_graph.specs.declared.return_graph.Returning.{Returning}
use Rattle.local_graph.specs.declared.search.Frame.{Frame}
use Rattle.local_graph.specs.LocalGraph.{IsOrderOfPlaces}
use Rattle.local_graph.specs.ReturnGraph.{ReturnGraph, IsOrderBetweenCaptures}
use Rattle.local_graph.specs.inner.Ranks.{AllFallOrRise}
use Rattle.local_graph.specs.inner.Searching.{Returns}
use Rattle.local_graph.specs.inner.Telling.{AreComponents}

-- the components, where moves return
abbrev pub components_in : Option Returning → Option (List ℕ)
components_in None = None
components_in (Some r) = Some r.components.items

-- White's order, which is Black's where no moves return
abbrev pub white_order_in : List ℕ → Option Returning → List ℕ
white_order_in order None = order
white_order_in order (Some r) = r.white_order.items

-- there are as many components as positions, where there are some
abbrev pub AreBeside : Option Returning → List ℕ → Type 0
AreBeside None positions = Unit {0}
AreBeside (Some r) positions = length r.components.items ≡ length positions

-- a path along edges comes back to one of its nodes
abbrev pub HasWayBack : List (List Edge) → Type 0
HasWayBack edges = (path : List Frame) × (node : ℕ) × Returns edges path node

-- one order of all edges, or components of edges that come back and for each colour an order by its ranks
abbrev pub AreTold : List ℕ → List (List Edge) → Option (List ℕ) → List ℕ → List ℕ → Type 0
AreTold positions edges None black white = IsOrderOfPlaces edges black × (white ≡ black)
AreTold positions edges (Some components) black white = HasWayBack edges × AreComponents edges components
    × (AllFallOrRise Black positions components edges → IsOrderBetweenCaptures Black edges (Some components) black)
    × (AllFallOrRise White positions components edges → IsOrderBetweenCaptures White edges (Some components) white)

-- the graph has the positions and the edges, with their components and orders
pub record IsMadeOf (positions : List ℕ) (edges : List (List Edge)) (g : ReturnGraph) : Type 0 where
  pub positions_are : g.positions ≡ positions
  pub edges_are : g.edges ≡ edges
  pub told : AreTold positions edges g.components g.black_order g.white_order

-- components of the edges, and for each colour an order by its ranks, of which Black's stands alone
pub record AreReturning (positions : List ℕ) (edges : List (List Edge)) (r : Returning) (black : List ℕ) : Type 0 where
  pub components : AreComponents edges r.components.items
  pub black_order : AllFallOrRise Black positions r.components.items edges → IsOrderBetweenCaptures Black edges (Some r.components.items) black
  pub white_order : AllFallOrRise White positions r.components.items edges
      → IsOrderBetweenCaptures White edges (Some r.components.items) r.white_order.items
