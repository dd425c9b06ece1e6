-- Games whose numbers are small.
use Rattle.std.specs.Prelude.{ℕ, ◌<◌, ◌≤◌, ◌^◌, List, length, slice_index}
use Rattle.go_grid.specs.declared.grid.TheConstants.{MOST_POINTS}
use Rattle.short_games.specs.Tree.{Tree, tree_at}
use Rattle.game_canon.specs.Outcomes.{AreWithin}
use Rattle.game_store.specs.Meaning.{AreIds}

-- each number of a region's value, also of one with a budget, is at most so large, in parts of 2 ^ -60
abbrev pub most_value : ℕ
most_value = 2 ^ 94

-- games of a store, no more than a board has points, with numbers no greater than those of a region's values
pub record AreModestGames (Ts : List Tree) (ids : List ℕ) : Type 0 where
  pub known : AreIds Ts ids
  pub few : length ids ≤ MOST_POINTS
  pub within : (j : ℕ) → j < length ids → AreWithin most_value (tree_at Ts (slice_index ids j))
