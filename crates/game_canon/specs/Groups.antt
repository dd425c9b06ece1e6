-- Options that come in two groups, as those of a sum of two games do by the game that was moved in.
use Rattle.std.specs.Prelude.{ℕ, ◌≡◌, ◌≤◌, List, take, drop, length}
use Rattle.short_games.specs.Tree.{Tree, Trees, Has}
use Rattle.short_games.specs.Order.{◌≤ᵍ◌}
use Rattle.game_store.specs.Meaning.{pick}

-- no tree of the list is at most another
abbrev pub AreUnordered : Trees → Type 0
AreUnordered Gs = (A B : Tree) → Has Gs A → Has Gs B → A ≤ᵍ B → A ≡ B

-- the first ids, so many as the cut says, and those behind them are two groups, in each of which no tree is at most another
pub record AreGroups (Ts : List Tree) (ids : List ℕ) (cut : ℕ) : Type 0 where
  pub within : cut ≤ length ids
  pub first : AreUnordered (pick Ts (take cut ids))
  pub second : AreUnordered (pick Ts (drop cut ids))
