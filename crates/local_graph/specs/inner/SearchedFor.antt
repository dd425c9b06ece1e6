-- What a search gives.
use Rattle.std.specs.Prelude.{◌≡◌, ℕ, List, Result, Ok, Err}
use Rattle.local_graph.specs.declared.graph.Edge.{Edge}
use Rattle.local_graph.specs.declared.search.Searched.{Searched}
use Rattle.local_graph.specs.declared.search.Searched.TheVariants.{Order, Cycle}
use Rattle.local_graph.specs.declared.graph_build.GraphError.{GraphError}
use Rattle.local_graph.specs.declared.graph_build.GraphError.TheVariants as error
use Rattle.local_graph.specs.Graph.{Graph}
use Rattle.local_graph.specs.LocalGraph.{IsOrderOfPlaces}
use Rattle.local_graph.specs.inner.Built.{ComesBack}

-- what a search gives: an order of the nodes with ends first, or moves that come back to a node
abbrev pub IsSearched : List (List Edge) → Searched → Type 0
IsSearched edges (Order order) = IsOrderOfPlaces edges order.items
IsSearched edges (Cycle moves back) = ComesBack edges moves back

-- the graph of the positions and their edges, or moves that come back
abbrev pub IsOrdered : List ℕ → List (List Edge) → Result Graph GraphError → Type 0
IsOrdered positions edges (Ok g) = (g.positions ≡ positions) × (g.edges ≡ edges) × IsOrderOfPlaces edges g.order
IsOrdered positions edges (Err (error.Cycle ms back)) = ComesBack edges ms back
IsOrdered positions edges (Err (error.Memory e)) = Unit {0}
IsOrdered positions edges (Err (error.Points n)) = ⊥
IsOrdered positions edges (Err error.Positions) = ⊥
