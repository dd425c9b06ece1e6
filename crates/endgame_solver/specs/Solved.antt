-- What a contract sees of a solved game, and what its calls say.
use Rattle.std.specs.Prelude.{◌≡◌, ◌≢◌, ◌⊎◌, ℕ, ◌<◌, ◌↔◌, List, length, slice_index, Contains, Result, Ok, Err, ℤ, pos, ◌*ℤ◌, ◌^◌, Bool, Some, None}
use Rattle.std.specs.List.{AllPairs}
use Rattle.go_grid.specs.declared.grid.Cell.{Cell}
use Rattle.go_grid.specs.Board.{Board, cell_at}
use Rattle.go_grid.specs.Region.{Region}
use Rattle.go_play.specs.Setup.{Setup}
use Rattle.local_play.specs.LocalPlay.{held_at}
use Rattle.local_graph.specs.LocalGraph.{IsReachable}
use Rattle.region_book.specs.Shape.{HaveOneShape}
use Rattle.region_cut.specs.Cut.{lowest, AreRegionsOfPlay}
use Rattle.whole_rules.specs.Opening.{IsOpening}
use Rattle.whole_rules.specs.WholeGame.{Whole, IsLegal, IsFirstMove}
use Rattle.whole_rules.specs.FirstWinningMove.{IsFirstWinning}
use Rattle.whole_rules.specs.declared.states.Move.{Move}
use Rattle.short_games.specs.Tree.{Tree, tree_at}
use Rattle.local_trees.specs.PositionTree.{IsValueOf}
use Rattle.endgame_solver.specs.Regions.{region_at}
use Rattle.endgame_solver.specs.SumGame.{balance}
use Rattle.endgame_solver.specs.Faults.{AreSound, AreRefused}
use Rattle.endgame_solver.specs.Limits.{Limits}
use Rattle.endgame_solver.specs.declared.faults.SolveError.{SolveError}
use Rattle.endgame_solver.specs.declared.faults.SolveError.TheVariants.{Memory}
use Rattle.endgame_solver.specs.declared.solved.RegionReport.{RegionReport}

-- the regions of play, the trees of the store, and the present state
pub record Solved : Type 0 where
  pub regions : List Region
  pub trees : List Tree
  pub state : Whole

-- the state in which the position opens, with or without a tax
abbrev pub OpensAs : Setup → Bool → Whole → Type 0
OpensAs setup tax s = IsOpening setup.board setup.black_prisoners setup.white_prisoners setup.komi_halves setup.side tax s

-- the regions of play of a position are all sound within the limits, and the state opens it, with or without a tax
pub record IsPlayable (limits : Limits) (tax : Bool) (setup : Setup) (s : Whole) : Type 0 where
  pub regions : List Region
  pub are_regions : AreRegionsOfPlay setup.board regions
  pub sound : AreSound limits regions
  pub opening : OpensAs setup tax s

-- the game that the position opens, with or without a tax, all of whose regions are sound, or why there is none
abbrev pub Begun : Setup → Bool → Limits → Result Solved SolveError → Type 0
Begun setup tax limits (Ok game) = OpensAs setup tax game.state × AreRegionsOfPlay setup.board game.regions × AreSound limits game.regions
Begun setup tax limits (Err (Memory e)) = Unit {0}
Begun setup tax limits (Err fault) = (regions : List Region) × AreRegionsOfPlay setup.board regions × AreRefused limits regions fault

-- the side to move has a move
abbrev pub HasMove : Whole → Type 0
HasMove s = (m : Move) × IsLegal s m

-- the first winning move, or the first move where no move wins
abbrev pub Chooses : Whole → Move → Type 0
Chooses s m = IsFirstWinning s (Some m) ⊎ (IsFirstWinning s None × IsFirstMove s (Some m))

-- the board holds the cells in the region
abbrev pub HoldsCells : Board → Region → List Cell → Type 0
HoldsCells h r cells = (length cells ≡ length r.points) × ((i : ℕ) → i < length r.points → cell_at h (slice_index r.points i) ≡ held_at cells i)

-- the id is that of the value of the cells
abbrev pub IsValueId : List Tree → Region → List Cell → ℕ → Type 0
IsValueId Ts r cells id = (id < length Ts) × IsValueOf r.touch cells (tree_at Ts id)

-- the id is that of the value of the region's present position
abbrev pub IsPresent : Solved → ℕ → ℕ → Type 0
IsPresent game k id = (cells : List Cell) × HoldsCells game.state.board (region_at game.regions k) cells
    × IsValueId game.trees (region_at game.regions k) cells id

-- the ids are those of the values of the regions' present positions, one for each
pub record ArePresent (game : Solved) (ids : List ℕ) : Type 0 where
  pub many : length ids ≡ length game.regions
  pub each : (k : ℕ) → k < length game.regions → IsPresent game k (slice_index ids k)

-- exactly `n` positions of the region are reachable
abbrev pub IsNumberOfPositions : Region → ℕ → Type 0
IsNumberOfPositions r n = (found : List (List Cell)) × AllPairs (λ a b. a ≢ b) found
    × ((cells : List Cell) → Contains found cells ↔ IsReachable r.touch r.cells cells) × (length found ≡ n)

-- the report of a region: its lowest point, its points, its reachable positions and the value of its opening
pub record IsReport (Ts : List Tree) (r : Region) (report : RegionReport) : Type 0 where
  pub lowest_point : report.lowest ≡ lowest r
  pub points : report.points ≡ length r.points
  pub positions : IsNumberOfPositions r report.positions
  pub value : IsValueId Ts r r.cells report.value

-- the openings of the two regions have one shape
abbrev pub HaveShape : List Region → ℕ → ℕ → Type 0
HaveShape regions i k =
    HaveOneShape (region_at regions i).touch (region_at regions i).cells (region_at regions k).touch (region_at regions k).cells

-- The openings have so many different shapes: no two of as many regions have one shape, and each region has that of one of them.
pub record IsNumberOfShapes (regions : List Region) (n : ℕ) : Type 0 where
  pub firsts : List ℕ
  pub many : length firsts ≡ n
  pub known : (j : ℕ) → j < n → slice_index firsts j < length regions
  pub different : (i j : ℕ) → i < j → j < n → ¬ HaveShape regions (slice_index firsts i) (slice_index firsts j)
  pub every : (k : ℕ) → k < length regions → (j : ℕ) × (j < n) × HaveShape regions (slice_index firsts j) k

-- Black's purse less White's, and a half for the token's owner, in parts of 2 ^ -60
abbrev pub balance_units : Whole → ℤ
balance_units s = balance s.purses *ℤ pos (2 ^ 59)
