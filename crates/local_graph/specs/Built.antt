-- What building a graph gives, and when it is refused.
use Rattle.std.specs.Prelude.{◌≡◌, ℕ, ◌<◌, ◌≤◌, length, Result, Ok, Err}
use Rattle.go_grid.specs.Region.{Region}
use Rattle.local_graph.specs.declared.graph_build.GraphError.{GraphError}
use Rattle.local_graph.specs.declared.graph_build.GraphError.TheVariants.{Points, Positions, Cycle, Memory}
use Rattle.local_graph.specs.Graph.{Graph}
use Rattle.local_graph.specs.LocalGraph.{IsGraph, IsOrderOfPlaces, IsCycle, AreDifferent, MoreThan}
use Rattle.local_graph.specs.FiniteLocalPlay.{HasNoCycle}

-- The graph, or why there is none: more than 32 points, else more positions than the limit, else a cycle.
abbrev pub Built : Region → ℕ → Result Graph GraphError → Type 0
Built r limit (Ok g) = (length r.points ≤ 32) × ¬ MoreThan r.touch r.cells limit × HasNoCycle r.touch r.cells
    × IsGraph r.touch r.cells g.positions g.edges × IsOrderOfPlaces g.edges g.order
Built r limit (Err (Points n)) = (32 < length r.points) × (n ≡ length r.points)
Built r limit (Err Positions) = (length r.points ≤ 32) × MoreThan r.touch r.cells limit
Built r limit (Err (Cycle ms back)) = (length r.points ≤ 32) × ¬ MoreThan r.touch r.cells limit
    × IsCycle r.touch r.cells ms back × AreDifferent r.touch r.cells ms
Built r limit (Err (Memory e)) = Unit {0}
