-- Regions with their graphs, and a point as a place in one of them.
use Rattle.std.specs.Prelude.{ℕ, ◌≡◌, ◌<◌, List, [], length, slice_index_or, Contains}
use Rattle.go_grid.specs.declared.grid.Cell.{Cell}
use Rattle.go_grid.specs.declared.grid.Colour.{Colour}
use Rattle.go_grid.specs.Board.{Board}
use Rattle.go_grid.specs.Region.{Region}
use Rattle.local_graph.specs.Graph.{Graph}
use Rattle.local_graph.specs.inner.Graph.{edges_at}
use Rattle.region_cut.specs.Cut.{AreRegionsOfPlay}
use Rattle.region_cut.specs.LocalBoard.{HoldsPosition, PlaysLocally}
use Rattle.local_trees.specs.LocalGame.{Step}
use Rattle.local_trees.proofs.GraphMoves.{steps_of}
use Rattle.local_trees.specs.GraphPlaces.{IsGraphOf, IsPlaceOf}
use Rattle.endgame_solver.specs.Regions.{region_at}

-- a position of a region: which region, and which place of its graph
pub record Spot : Type 0 where
  pub region : ℕ
  pub place : ℕ

-- a graph without positions, which stands for one past the last
abbrev pub no_graph : Graph
no_graph = record { positions = []; edges = []; order = [] }

-- the graph at a place of a list
abbrev pub graph_at : List Graph → ℕ → Graph
graph_at graphs k = slice_index_or graphs k no_graph

-- the regions of play of the board, with a graph for each, in which local play is play on the board
pub record AreGraphs (g : Board) (regions : List Region) (graphs : List Graph) : Type 0 where
  pub cut : AreRegionsOfPlay g regions
  pub local : (r : Region) → Contains regions r → PlaysLocally g r
  pub full : (r : Region) → Contains regions r → length r.cells ≡ length r.points
  pub many : length graphs ≡ length regions
  pub each : (k : ℕ) → k < length regions → IsGraphOf (region_at regions k) (graph_at graphs k)

-- the position at a place of a region's graph
abbrev pub spot_in : ℕ → ℕ → Spot
spot_in k i = record { region = k; place = i }

-- the local moves of a player from a place of a region's graph
abbrev pub moves_at : List Graph → Colour → Spot → List (Step Spot)
moves_at graphs c q = steps_of Spot (spot_in q.region) c (edges_at (graph_at graphs q.region).edges q.place)

-- the point is one of region `k`
abbrev pub IsPointOf : List Region → ℕ → ℕ → Type 0
IsPointOf regions k p = Contains (region_at regions k).points p

-- the position is one of region `k`, and these are its cells
pub record HasCells (regions : List Region) (graphs : List Graph) (k : ℕ) (q : Spot) (cells : List Cell) : Type 0 where
  pub region : q.region ≡ k
  pub known : k < length regions
  pub at : IsPlaceOf (region_at regions k) (graph_at graphs k) q.place cells

-- the board holds the position of the place in the region
abbrev pub IsShown : Board → List Region → List Graph → Board → ℕ → Spot → Type 0
IsShown g regions graphs h k q = (cells : List Cell) × HasCells regions graphs k q cells × HoldsPosition g (region_at regions k) cells h
