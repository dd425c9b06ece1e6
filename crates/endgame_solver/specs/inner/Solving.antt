-- What solving a region gives, and solving one region after the other.
use Rattle.std.specs.Prelude.{◌≡◌, ℕ, ◌<◌, ◌≤◌, List, length, slice_index}
use Rattle.go_grid.specs.Region.{Region}
use Rattle.local_graph.specs.LocalGraph.{MoreThan}
use Rattle.local_graph.specs.Graph.{Graph}
use Rattle.short_games.specs.Tree.{Tree, tree_at}
use Rattle.game_canon.specs.Outcomes.{AreWithin}
use Rattle.local_trees.specs.GraphPlaces.{IsGraphOf}
use Rattle.local_value.specs.Values.{AreValues}
use Rattle.endgame_solver.specs.Regions.{region_at}
use Rattle.endgame_solver.specs.inner.Regions.{graph_at}
use Rattle.endgame_solver.specs.Faults.{IsFaultOf, IsSound}
use Rattle.endgame_solver.specs.inner.Held.{ids_at, most_units}
use Rattle.endgame_solver.specs.Limits.{Limits}
use Rattle.endgame_solver.specs.declared.faults.SolveError.{SolveError}
use Rattle.endgame_solver.specs.declared.faults.SolveError.TheVariants.{Memory}

-- the region's graph, which has at most so many positions
pub record IsGraphWithin (limit : ℕ) (r : Region) (g : Graph) : Type 0 where
  pub graph : IsGraphOf r g
  pub few : length g.positions ≤ limit
  pub positions : ¬ MoreThan r.touch r.cells limit

-- the region is sound, and these are its graph and the ids of its values
pub record IsSolvedBy (limits : Limits) (r : Region) (g : Graph) (Ts : List Tree) (ids : List ℕ) : Type 0 where
  pub sound : IsSound limits r
  pub graph : IsGraphWithin limits.positions r g
  pub values : AreValues r g Ts ids
  pub within : (i : ℕ) → i < length ids → AreWithin most_units (tree_at Ts (slice_index ids i))

-- the region's fault, or want of memory
abbrev pub IsRefusalOf : Limits → Region → SolveError → Type 0
IsRefusalOf limits r (Memory e) = Unit {0}
IsRefusalOf limits r fault = IsFaultOf limits r fault

-- a graph and values for each of the first n regions, by which it is solved
pub record AreSolvedBelow (limits : Limits) (regions : List Region) (graphs : List Graph) (values : List (List ℕ)) (Ts : List Tree) (n : ℕ) : Type 0 where
  pub as_many_graphs : length graphs ≡ n
  pub as_many_values : length values ≡ n
  pub each : (k : ℕ) → k < n → IsSolvedBy limits (region_at regions k) (graph_at graphs k) Ts (ids_at values k)
