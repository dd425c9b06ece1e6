-- Regions that are quickly played out.
use Rattle.std.specs.Prelude.{◌≤◌, List, length, Contains}
use Rattle.go_grid.specs.declared.grid.Cell.{Cell}
use Rattle.go_grid.specs.Board.{Board}
use Rattle.go_grid.specs.Region.{Region}
use Rattle.local_graph.specs.FiniteLocalPlay.{HasNoCycle}
use Rattle.local_graph.specs.LocalGraph.{IsReachable, MoreThan}
use Rattle.short_games.specs.Tree.{Tree}
use Rattle.short_games.specs.Parts.{HasMoreParts}
use Rattle.game_canon.specs.Changes.{HasNumberPastBounds}
use Rattle.local_trees.specs.PositionTree.{IsValueOf}
use Rattle.region_cut.specs.Cut.{AreRegionsOfPlay}

-- the region has at most 3 points, at most 27 reachable positions and no cycle, and the value of each of these has at most 500
-- parts and numbers within the bounds of a Dyadic
pub record IsShort (r : Region) : Type 0 where
  pub points : length r.points ≤ 3
  pub positions : ¬ MoreThan r.touch r.cells 27
  pub no_cycle : HasNoCycle r.touch r.cells
  pub parts : (cells : List Cell) (V : Tree) → IsReachable r.touch r.cells cells → IsValueOf r.touch cells V → ¬ HasMoreParts V 500
  pub bounds : (cells : List Cell) (V : Tree) → IsReachable r.touch r.cells cells → IsValueOf r.touch cells V → ¬ HasNumberPastBounds V

-- each region of play of the board has few points and positions, no cycle, and values with few parts and numbers within bounds
abbrev pub HasShortRegions : Board → Type 0
HasShortRegions g = (regions : List Region) → AreRegionsOfPlay g regions → (r : Region) → Contains regions r → IsShort r
