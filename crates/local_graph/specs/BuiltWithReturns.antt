-- What building a graph whose moves may return gives, and when it is refused.
use Rattle.std.specs.Prelude.{◌≡◌, ℕ, ◌<◌, ◌≤◌, ◌↔◌, length, Result, Ok, Err, None}
use Rattle.go_grid.specs.declared.grid.Colour.{Colour}
use Rattle.go_grid.specs.Region.{Region}
use Rattle.local_graph.specs.declared.graph_build.GraphError.{GraphError}
use Rattle.local_graph.specs.declared.graph_build.GraphError.TheVariants.{Points, Positions, Cycle, Memory}
use Rattle.local_graph.specs.FiniteLocalPlay.{HasNoCycle}
use Rattle.local_graph.specs.LocalGraph.{IsGraph, MoreThan}
use Rattle.local_graph.specs.ReturnGraph.{ReturnGraph, order_for, TellReturns, IsOrderBetweenCaptures}

-- The graph, or why there is none: more than 32 points, else more positions than the limit. A cycle is no reason. There are
-- components exactly where there is one.
abbrev pub BuiltWithReturns : Region → ℕ → Result ReturnGraph GraphError → Type 0
BuiltWithReturns r limit (Ok g) = (length r.points ≤ 32) × ¬ MoreThan r.touch r.cells limit
    × IsGraph r.touch r.cells g.positions g.edges
    × ((g.components ≡ None) ↔ HasNoCycle r.touch r.cells) × TellReturns r.touch r.cells g.positions g.edges g.components
    × ((c : Colour) → IsOrderBetweenCaptures c g.edges g.components (order_for g c))
BuiltWithReturns r limit (Err (Points n)) = (32 < length r.points) × (n ≡ length r.points)
BuiltWithReturns r limit (Err Positions) = (length r.points ≤ 32) × MoreThan r.touch r.cells limit
BuiltWithReturns r limit (Err (Cycle ms back)) = ⊥
BuiltWithReturns r limit (Err (Memory e)) = Unit {0}
