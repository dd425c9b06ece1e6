-- What a solved game keeps: the regions with their graphs and values, and where the present state stands in them.
use Rattle.std.specs.Prelude.{◌≡◌, ℕ, ◌+◌, ◌*◌, ◌^◌, ◌<◌, ◌≤◌, List, [], length, slice_index, slice_index_or, Contains, sum_by, Option, Some, None}
use Rattle.local_graph.specs.declared.graph.TheConstants.{MOST_POSITIONS}
use Rattle.go_grid.specs.declared.grid.TheConstants.{MOST_POINTS}
use Rattle.go_grid.specs.declared.grid.Colour.{Colour}
use Rattle.go_grid.specs.Chain.{IsSettled}
use Rattle.go_grid.specs.Board.{Board}
use Rattle.go_grid.specs.Marks.{Marks}
use Rattle.go_grid.specs.Region.{Region, IsRegion}
use Rattle.benson_life.specs.Region.{IsContested}
use Rattle.benson_life.specs.Walls.{WallsStand}
use Rattle.whole_rules.specs.declared.money.Purses.{Purses}
use Rattle.whole_rules.specs.declared.money.Token.{Token}
use Rattle.whole_rules.specs.declared.money.Token.TheVariants as token
use Rattle.whole_rules.specs.Purses.{purse}
use Rattle.whole_rules.specs.declared.states.Move.TheVariants.{Stone}
use Rattle.whole_rules.specs.FirstWinningMove.{IsWinning}
use Rattle.whole_rules.specs.WholeGame.{Whole}
use Rattle.local_graph.specs.declared.graph.Edge.{Edge}
use Rattle.local_graph.specs.Graph.{Graph}
use Rattle.local_graph.specs.inner.Graph.{edges_at}
use Rattle.short_games.specs.Tree.{Tree, tree_at}
use Rattle.game_canon.specs.Outcomes.{AreWithin}
use Rattle.local_value.specs.Values.{AreValues}
use Rattle.endgame_solver.specs.Regions.{IsStoneAt, region_at}
use Rattle.endgame_solver.specs.inner.Regions.{graph_at, AreGraphs, spot_in, IsShown}

-- the ids of a region's positions, by place
abbrev pub ids_at : List (List ℕ) → ℕ → List ℕ
ids_at values k = slice_index_or values k []

-- the place of a region's present position
abbrev pub place_at : List ℕ → ℕ → ℕ
place_at places k = slice_index_or places k 0

-- each number of a value is at most a million times 32, in parts of 2 ^ -60
abbrev pub most_units : ℕ
most_units = 32000000 * 2 ^ 60

-- the regions of play of the board, each with its graph and the values of its positions
pub record AreSolved (g : Board) (regions : List Region) (graphs : List Graph) (values : List (List ℕ)) (Ts : List Tree) : Type 0 where
  pub settled : IsSettled g
  pub proper : (r : Region) → Contains regions r → IsRegion r.columns r.rows r.points r.cells r.touch
  pub cut : AreGraphs g regions graphs
  pub few : length regions ≤ MOST_POINTS
  pub short : (k : ℕ) → k < length regions → length (graph_at graphs k).order ≤ MOST_POSITIONS
  pub many : length values ≡ length regions
  pub valued : (k : ℕ) → k < length regions → AreValues (region_at regions k) (graph_at graphs k) Ts (ids_at values k)
  pub within : (k i : ℕ) → k < length regions → i < length (ids_at values k) → AreWithin most_units (tree_at Ts (slice_index (ids_at values k) i))

-- the present state has the walls and the contested points of the board, and holds in each region the position of its place
pub record IsAt (g : Board) (regions : List Region) (graphs : List Graph) (places : List ℕ) (s : Whole) : Type 0 where
  pub many : length places ≡ length regions
  pub walls : WallsStand g s.board
  pub contested : Marks s.contested (IsContested g)
  pub shown : (k : ℕ) → k < length regions → IsShown g regions graphs s.board k (spot_in k (place_at places k))

-- the ids of the values of the regions' present positions, one for each
pub record AreSummed (regions : List Region) (values : List (List ℕ)) (places ids : List ℕ) : Type 0 where
  pub many : length ids ≡ length regions
  pub each : (k : ℕ) → k < length regions → slice_index ids k ≡ slice_index (ids_at values k) (place_at places k)

-- 1 where there is a token that a player may still be paid for
abbrev pub token_left : Token → ℕ
token_left token.Nobody = 0
token_left token.Black = 1
token_left token.White = 1

-- Neither purse passes 2 ^ 41 in any play: each move in a region goes to a place that stands earlier in the graph's order, and takes
-- at most 33 stones.
pub record HasRoom (graphs : List Graph) (places : List ℕ) (s : Whole) : Type 0 where
  pub ranks : List ℕ
  pub many : length ranks ≡ length places
  pub each : (k : ℕ) → k < length places → (slice_index ranks k < length (graph_at graphs k).order) × (slice_index (graph_at graphs k).order (slice_index ranks k) ≡ place_at places k)
  pub room : (c : Colour) → purse c s.purses + 33 * sum_by (λ n. n) ranks + token_left s.purses.token ≤ 2 ^ 41

-- what a solved game keeps: the regions of a board with their graphs and values, the place of each in the present state, the
-- ids of the present values, and purses that stay small enough in any play
pub record AreSolvedAt (regions : List Region) (graphs : List Graph) (values : List (List ℕ)) (places ids : List ℕ) (Ts : List Tree) (s : Whole) : Type 0 where
  pub board : Board
  pub solved : AreSolved board regions graphs values Ts
  pub at : IsAt board regions graphs places s
  pub summed : AreSummed regions values places ids
  pub room : HasRoom graphs places s

-- the edge is one of the list, it is the player's, and its place is that of the point
pub record IsEdgeTo (r : Region) (edges : List Edge) (c : Colour) (p : ℕ) (e : Edge) : Type 0 where
  pub stone : IsStoneAt r c p e
  pub among : Contains edges e

-- the edge of a stone at a point: a local move of the region's present position
pub record IsStoneEdge (regions : List Region) (graphs : List Graph) (places : List ℕ) (c : Colour) (p k : ℕ) (e : Edge) : Type 0 where
  pub known : k < length regions
  pub edge : IsEdgeTo (region_at regions k) (edges_at (graph_at graphs k).edges (place_at places k)) c p e

-- a graph and a place of it for each region
pub record ArePlaces (regions : List Region) (graphs : List Graph) (places : List ℕ) : Type 0 where
  pub many_graphs : length graphs ≡ length regions
  pub many_places : length places ≡ length regions
  pub inside : (k : ℕ) → k < length regions → place_at places k < length (graph_at graphs k).positions

-- of the stones that win the one at the lowest point, which is one of at most 625
abbrev pub IsFirstStone : Whole → Option ℕ → Type 0
IsFirstStone s (Some p) = (p < MOST_POINTS) × IsWinning s (Stone p) × ((q : ℕ) → q < p → ¬ IsWinning s (Stone q))
IsFirstStone s None = (q : ℕ) → ¬ IsWinning s (Stone q)
