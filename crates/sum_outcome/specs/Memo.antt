-- What a search remembers, and where it fits a store.
use Rattle.std.specs.Prelude.{ℕ, ◌↔◌, ◌≤◌, List, [], length, Contains, Bool, IsTrue, cond, Option, None}
use Rattle.go_grid.specs.declared.grid.Colour.{Colour}
use Rattle.go_grid.specs.declared.grid.Colour.TheVariants.{Black, White}
use Rattle.short_games.specs.Tree.{Tree}
use Rattle.game_store.specs.Meaning.{AreIds, Extends}
use Rattle.game_players.specs.Players.{LosesGame}
use Rattle.game_canon.specs.SumComparisons.{Compared, AreComparisonsRight}
use Rattle.sum_outcome.specs.Sums.{sum_tree}
use Rattle.sum_outcome.specs.Incentives.{AreIncentivesRight}
use Rattle.sum_outcome.specs.Opposites.{IsZero}
use Rattle.sum_outcome.specs.declared.key.Key.{Key}
use Rattle.sum_outcome.specs.declared.incentives.MovePair.{MovePair}

-- a search as contracts see it: how many sums it may remember, whether the player who is to move loses each of those that it does, of pairs
-- of moves whether the incentive of the first is at least that of the second, of pairs of sums of two games whether the
-- first is at most the second, and the id of 0
pub record Search : Type 0 where
  pub entries : ℕ
  pub sums : List (Key × Bool)
  pub incentives : List (MovePair × Bool)
  pub comparisons : Compared
  pub zero : Option ℕ

-- what a search remembers at first
abbrev pub blank_search : ℕ → Search
blank_search n = record { entries = n; sums = []; incentives = []; comparisons = []; zero = None }

-- the sum of a key's games and its number
abbrev pub key_tree : List Tree → Key → Tree
key_tree Ts key = sum_tree Ts key.games.items key.number

-- who is to move in the sum of a key
abbrev pub mover_of_key : Key → Colour
mover_of_key key = cond key.black Black White

-- the key has ids of the store, and the answer is right there
abbrev pub IsAnswer : List Tree → Key → Bool → Type 0
IsAnswer Ts key lost = AreIds Ts key.games.items × (IsTrue lost ↔ LosesGame (mover_of_key key) (key_tree Ts key))

-- each entry has a key of ids of the store, and its answer is right there
abbrev pub AreAnswers : List Tree → List (Key × Bool) → Type 0
AreAnswers Ts entries = (e : Key × Bool) → Contains entries e → IsAnswer Ts e.0 e.1

-- a search fits a store where all that it remembers is of ids of the store and right there
pub record Fits (Ts : List Tree) (search : Search) : Type 0 where
  pub sums : AreAnswers Ts search.sums
  pub incentives : AreIncentivesRight Ts search.incentives
  pub comparisons : AreComparisonsRight Ts search.comparisons
  pub zero : IsZero Ts search.zero

-- a search remembers at most as much as it may
pub record IsWithinEntries (search : Search) : Type 0 where
  pub sums : length search.sums ≤ search.entries
  pub incentives : length search.incentives ≤ search.entries

-- a search that fits a store fits it after more forms were interned
abbrev pub FitsGrownStores : Type 0
FitsGrownStores = (Ts Us : List Tree) (search : Search) → Extends Ts Us → Fits Ts search → Fits Us search
