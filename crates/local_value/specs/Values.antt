-- The values of the positions of a graph, as ids of a store.
use Rattle.std.specs.Prelude.{ℕ, ◌≡◌, ◌<◌, List, length, slice_index}
use Rattle.go_grid.specs.declared.grid.Cell.{Cell}
use Rattle.go_grid.specs.Region.{Region}
use Rattle.local_graph.specs.Graph.{Graph}
use Rattle.short_games.specs.Tree.{Tree, tree_at}
use Rattle.local_trees.specs.PositionTree.{IsValueOf}
use Rattle.local_trees.specs.GraphPlaces.{IsPlaceOf}

-- an id for each place, that of the value of its position
pub record AreValues (r : Region) (g : Graph) (Ts : List Tree) (ids : List ℕ) : Type 0 where
  pub long : length ids ≡ length g.positions
  pub known : (i : ℕ) → i < length ids → slice_index ids i < length Ts
  pub each : (i : ℕ) (cells : List Cell) → IsPlaceOf r g i cells → IsValueOf r.touch cells (tree_at Ts (slice_index ids i))
