-- What a game with cycles keeps: the regions with their graphs and values, and where the present state stands in them.
use Rattle.std.specs.Prelude.{ℕ, ◌+◌, ◌^◌, ◌≡◌, ◌<◌, ◌≤◌, List, length, slice_index, slice_index_or, Contains}
use Rattle.go_grid.specs.declared.grid.Cell.{Cell}
use Rattle.go_grid.specs.declared.grid.Colour.{Colour}
use Rattle.go_grid.specs.declared.grid.Colour.TheVariants.{Black, White}
use Rattle.go_grid.specs.declared.grid.TheConstants.{MOST_POINTS}
use Rattle.go_grid.specs.Board.{Board}
use Rattle.go_grid.specs.Chain.{IsSettled}
use Rattle.go_grid.specs.Marks.{Marks}
use Rattle.go_grid.specs.Region.{Region}
use Rattle.benson_life.specs.Region.{IsContested}
use Rattle.benson_life.specs.Walls.{WallsStand}
use Rattle.region_cut.specs.Cut.{AreRegionsOfPlay}
use Rattle.region_cut.specs.LocalBoard.{HoldsPosition}
use Rattle.whole_rules.specs.Purses.{purse}
use Rattle.whole_rules.specs.WholeGame.{Whole}
use Rattle.local_graph.specs.declared.graph.Edge.{Edge}
use Rattle.local_graph.specs.inner.Graph.{edges_at}
use Rattle.short_games.specs.Tree.{Tree, tree_at}
use Rattle.game_canon.specs.Outcomes.{AreWithin}
use Rattle.local_value.specs.BudgetValues.{AreBudgetValues, IsReturnGraphOf, layer_with, plain_graph}
use Rattle.local_trees.specs.Steady.{IsLeastSteady}
use Rattle.local_trees.specs.GraphPlaces.{IsPlaceOf}
use Rattle.endgame_solver.specs.ModestGames.{most_value}
use Rattle.endgame_solver.specs.Regions.{IsStoneAt, region_at}
use Rattle.cycle_solver.specs.declared.asking.Present.{Present}
use Rattle.cycle_solver.specs.declared.region_game.RegionGame.{RegionGame}
use Rattle.cycle_solver.specs.GameLists.{game_at, layers_for}

-- the layer that serves a budget: its own, or the last
abbrev pub ids_with : RegionGame → Colour → ℕ → List ℕ
ids_with game c budget = layer_with (layers_for game c) budget

-- no region needs a greater budget
abbrev pub enough : ℕ
enough = 255

-- the layers serve each budget, and the last is for the least one at which the region is steady for the colour
pub record AreLayersOf (r : Region) (game : RegionGame) (c : Colour) (Ts : List Tree) : Type 0 where
  pub budget : ℕ
  pub many : length (layers_for game c) ≡ budget + 1
  pub few : budget ≤ enough
  pub least : IsLeastSteady r.touch r.cells c budget
  pub values : (j : ℕ) → AreBudgetValues r game.graph c j Ts (ids_with game c j)
  pub within : (j i : ℕ) → i < length game.graph.positions → AreWithin most_value (tree_at Ts (slice_index (ids_with game c j) i))

-- the region's graph and the values of both colours
pub record IsGameOf (r : Region) (Ts : List Tree) (game : RegionGame) : Type 0 where
  pub graph : IsReturnGraphOf r game.graph
  pub layers : (c : Colour) → AreLayersOf r game c Ts

-- the place of a region's present position
abbrev pub place_at : List ℕ → ℕ → ℕ
place_at places k = slice_index_or places k 0

-- the regions of play of the board, each with its game
pub record AreSolved (g : Board) (regions : List Region) (games : List RegionGame) (Ts : List Tree) : Type 0 where
  pub settled : IsSettled g
  pub cut : AreRegionsOfPlay g regions
  pub few : length regions ≤ MOST_POINTS
  pub many : length games ≡ length regions
  pub each : (k : ℕ) → k < length regions → IsGameOf (region_at regions k) Ts (game_at games k)

-- the board holds in each region the position at its place
abbrev pub AreShown : Board → List Region → List RegionGame → List ℕ → Board → Type 0
AreShown g regions games places h = (k : ℕ) → k < length regions
    → (cells : List Cell) × IsPlaceOf (region_at regions k) (plain_graph (game_at games k).graph) (place_at places k) cells
    × HoldsPosition g (region_at regions k) cells h

-- the present state has the walls and the contested points of the board, and holds in each region the position of its place
pub record IsAt (g : Board) (regions : List Region) (games : List RegionGame) (places : List ℕ) (s : Whole) : Type 0 where
  pub many : length places ≡ length regions
  pub walls : WallsStand g s.board
  pub contested : Marks s.contested (IsContested g)
  pub shown : AreShown g regions games places s.board

-- the ids of a player's values of the present positions, with a budget for each region or the last one that changes anything
pub record AreSummedBy (games : List RegionGame) (places : List ℕ) (c : Colour) (budget : ℕ → ℕ) (ids : List ℕ) : Type 0 where
  pub many : length ids ≡ length games
  pub each : (k : ℕ) → k < length games
      → slice_index ids k ≡ slice_index (ids_with (game_at games k) c (budget k)) (place_at places k)

-- the same with one budget for all regions
abbrev pub AreSummed : List RegionGame → List ℕ → Colour → ℕ → List ℕ → Type 0
AreSummed games places c budget ids = AreSummedBy games places c (λ k. budget) ids

-- the same with a list of budgets
abbrev pub AreSummedWith : List RegionGame → List ℕ → Colour → List ℕ → List ℕ → Type 0
AreSummedWith games places c budgets ids = AreSummedBy games places c (λ k. slice_index_or budgets k 0) ids

-- what a game with cycles keeps
pub record IsHeld (regions : List Region) (games : List RegionGame) (places : List ℕ) (Ts : List Tree) (s : Whole) : Type 0 where
  pub board : Board
  pub solved : AreSolved board regions games Ts
  pub at : IsAt board regions games places s
  pub modest : (c : Colour) → purse c s.purses ≤ 2 ^ 41

-- and both players' values of the present positions, with a budget that no region needs more than
pub record IsKept (regions : List Region) (games : List RegionGame) (places low high : List ℕ) (Ts : List Tree) (s : Whole) : Type 0 where
  pub held : IsHeld regions games places Ts s
  pub low_sum : AreSummed games places Black enough low
  pub high_sum : AreSummed games places White enough high

-- each place is one of its region's graph
pub record HavePlaces (games : List RegionGame) (places : List ℕ) (c : Colour) (budget : ℕ) : Type 0 where
  pub many : length places ≡ length games
  pub inside : (k : ℕ) → k < length games → place_at places k < length (ids_with (game_at games k) c budget)

-- what is seen of a game with cycles
abbrev pub IsSeen : Present → Type 0
IsSeen present = IsHeld present.regions.now present.games.now present.places.now present.store.now present.whole.now

-- and the ids are those of a player's values of the present positions with a budget
abbrev pub IsSeenFor : Present → Colour → ℕ → List ℕ → Type 0
IsSeenFor present c budget ids = IsSeen present × AreSummed present.games.now present.places.now c budget ids

-- the edge of a stone at a point: a local move of the region's present position
pub record IsStoneEdge (regions : List Region) (games : List RegionGame) (places : List ℕ) (c : Colour) (p k : ℕ) (e : Edge) : Type 0 where
  pub known : k < length regions
  pub stone : IsStoneAt (region_at regions k) c p e
  pub among : Contains (edges_at (game_at games k).graph.edges (place_at places k)) e

-- each region has a game, and its place is one of its graph
pub record HaveEdges (regions : List Region) (games : List RegionGame) (places : List ℕ) : Type 0 where
  pub many_games : length games ≡ length regions
  pub many_places : length places ≡ length regions
  pub inside : (k : ℕ) → k < length regions → place_at places k < length (game_at games k).graph.positions

-- each graph has a position, and a value of it with each budget
abbrev pub HaveOpenings : List RegionGame → Type 0
HaveOpenings games = (c : Colour) (budget k : ℕ) → k < length games → 0 < length (ids_with (game_at games k) c budget)
