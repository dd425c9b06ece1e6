-- What solving a region with cycles gives, and solving one region after the other.
use Rattle.std.specs.Prelude.{ℕ, ◌+◌, ◌≡◌, ◌<◌, ◌≤◌, List, length, Option, None, Some}
use Rattle.go_grid.specs.declared.grid.Colour.{Colour}
use Rattle.go_grid.specs.Region.{Region}
use Rattle.local_graph.specs.LocalGraph.{MoreThan}
use Rattle.local_graph.specs.ReturnGraph.{ReturnGraph}
use Rattle.short_games.specs.Tree.{Tree}
use Rattle.local_value.specs.BudgetValues.{AreSteadyLayers, AreWithinLimits, IsNeeded, IsReturnGraphOf}
use Rattle.endgame_solver.specs.Regions.{region_at}
use Rattle.endgame_solver.specs.Limits.{Limits}
use Rattle.cycle_solver.specs.CycleFaults.{IsFaultOf, IsSteadyWithin}
use Rattle.cycle_solver.specs.declared.faults.CycleError.{CycleError}
use Rattle.cycle_solver.specs.declared.faults.CycleError.TheVariants.{Memory}
use Rattle.cycle_solver.specs.declared.region_game.RegionGame.{RegionGame}
use Rattle.cycle_solver.specs.GameLists.{game_at}
use Rattle.cycle_solver.specs.Held.{IsGameOf}

-- the region's graph, which has at most so many positions
pub record IsGraphWithin (limit : ℕ) (r : Region) (g : ReturnGraph) : Type 0 where
  pub graph : IsReturnGraphOf r g
  pub few : length g.positions ≤ limit
  pub positions : ¬ MoreThan r.touch r.cells limit

-- the layers of the colour's values, all of which are within the limits, or that the region isn't steady for the colour
abbrev pub MayBeSteady : Limits → ℕ → Region → ReturnGraph → Colour → List Tree → Option (List (List ℕ)) → Type 0
MayBeSteady limits most r g c Ts (Some layers) = (budget : ℕ) × (budget ≤ most) × AreSteadyLayers r g c limits.parts budget Ts layers
MayBeSteady limits most r g c Ts None = IsNeeded r c (most + 1) × ((j : ℕ) → j ≤ most + 1 → AreWithinLimits r g c limits.parts j)

-- the region is steady within the limits, and this is its game
pub record IsSolvedBy (limits : Limits) (most : ℕ) (r : Region) (Ts : List Tree) (game : RegionGame) : Type 0 where
  pub sound : IsSteadyWithin limits most r
  pub holds : IsGameOf r Ts game

-- the region's fault, or want of memory
abbrev pub IsRefusalOf : Limits → ℕ → Region → CycleError → Type 0
IsRefusalOf limits most r (Memory e) = Unit {0}
IsRefusalOf limits most r fault = IsFaultOf limits most r fault

-- a game for each of the first n regions, by which it is solved
pub record AreSolvedBelow (limits : Limits) (most : ℕ) (regions : List Region) (games : List RegionGame) (Ts : List Tree) (n : ℕ) : Type 0 where
  pub many : length games ≡ n
  pub each : (k : ℕ) → k < n → IsSolvedBy limits most (region_at regions k) Ts (game_at games k)
