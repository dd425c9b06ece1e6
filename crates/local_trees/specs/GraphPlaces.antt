-- The graph of a region without a cycle, and the places of its positions.
use Rattle.std.specs.Prelude.{ℕ, ◌≡◌, ◌<◌, ◌≤◌, List, length, slice_index}
use Rattle.go_grid.specs.declared.grid.Cell.{Cell}
use Rattle.go_grid.specs.Region.{Region}
use Rattle.local_play.specs.Packed.{pack}
use Rattle.local_graph.specs.LocalGraph.{IsGraph, IsOrderOfPlaces, IsReachable}
use Rattle.local_graph.specs.FiniteLocalPlay.{HasNoCycle}
use Rattle.local_graph.specs.Graph.{Graph}

-- the graph has exactly the reachable positions of the region and their moves, and no cycle
pub record IsGraphOf (r : Region) (g : Graph) : Type 0 where
  pub few : length r.cells ≤ 32
  pub graph : IsGraph r.touch r.cells g.positions g.edges
  pub order : IsOrderOfPlaces g.edges g.order
  pub no_cycle : HasNoCycle r.touch r.cells

-- the cells are those of the position at the place of the region's graph
pub record IsPlaceOf (r : Region) (g : Graph) (i : ℕ) (cells : List Cell) : Type 0 where
  pub inside : i < length g.positions
  pub reachable : IsReachable r.touch r.cells cells
  pub packed : slice_index g.positions i ≡ pack cells
