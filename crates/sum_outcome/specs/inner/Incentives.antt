-- What a walk over the options of a sum keeps of incentives.
use Rattle.std.specs.Prelude.{ℕ, ◌<◌, List, length, ◌⊎◌, ℤ}
use Rattle.std.specs.List.{slice_index_or}
use Rattle.go_grid.specs.declared.grid.Colour.{Colour}
use Rattle.go_grid.specs.declared.grid.Colour.TheVariants.{Black, White}
use Rattle.short_games.specs.Tree.{Tree, tree_at}
use Rattle.short_games.specs.Order.{◌≤ᵍ◌}
use Rattle.game_store.specs.Meaning.{pick}
use Rattle.short_games.specs.Number.{number_tree}
use Rattle.short_games.specs.Sum.{◌+ᵍ◌, total}
use Rattle.game_players.specs.Players.{LosesGame}
use Rattle.go_grid.specs.Board.{other}
use Rattle.short_games.specs.SumLaws.{incentive}
use Rattle.game_canon.specs.SumComparisons.{AreComparisonsRight}
use Rattle.sum_outcome.specs.inner.Search.{IsMove, put}
use Rattle.sum_outcome.specs.declared.incentives.MovePair.{MovePair}
use Rattle.sum_outcome.specs.declared.incentives.Incentives.{Incentives}
use Rattle.sum_outcome.specs.Incentives.{AreIncentivesRight}

-- a pair of moves in the other order
abbrev pub turned : MovePair → MovePair
turned p = record { game = p.other; option = p.other_option; other = p.game; other_option = p.option }

-- the answers on pairs of moves are right, and so are the comparisons of sums that are kept beside them
abbrev pub IsKnownRight : List Tree → Incentives → Type 0
IsKnownRight Ts known = AreIncentivesRight Ts known.answers.entries × AreComparisonsRight Ts known.comparisons

-- the move from G to Y is as good for the player as the one from H to X: Left wants the great incentive, Right the small one
abbrev pub IsGood : Colour → Tree → Tree → Tree → Tree → Type 0
IsGood Black G Y H X = incentive H X ≤ᵍ incentive G Y
IsGood White G Y H X = incentive G Y ≤ᵍ incentive H X

-- the first move of a pair is as good for the player as the second
abbrev pub IsAsGood : List Tree → Colour → MovePair → Type 0
IsAsGood Ts c p = IsGood c (tree_at Ts p.game) (tree_at Ts p.option) (tree_at Ts p.other) (tree_at Ts p.other_option)

-- some move in the game of the id is better for the player than the one from H to X, or as good where Earlier holds
abbrev pub HasPreferred : List Tree → Colour → ℕ → Tree → Tree → Type 0 → Type 0
HasPreferred Ts c i H X Earlier = (Y : Tree) × IsMove (tree_at Ts i) c Y × IsGood c (tree_at Ts i) Y H X × (Earlier ⊎ (IsGood c H X (tree_at Ts i) Y → ⊥))

-- some move is better for the player than the one to X at the place, or as good and in an earlier game
abbrev pub IsDominated : List Tree → List ℕ → Colour → ℕ → Tree → Type 0
IsDominated Ts ids c k X = (j : ℕ) × (j < length ids) × HasPreferred Ts c (slice_index_or ids j 0) (tree_at Ts (slice_index_or ids k 0)) X (j < k)

-- each move at the place fails or is dominated
abbrev pub IsPlaceSettled : List Tree → List ℕ → ℤ → Colour → ℕ → Type 0
IsPlaceSettled Ts ids x c k = (X : Tree) → IsMove (tree_at Ts (slice_index_or ids k 0)) c X
    → (LosesGame (other c) (total (put (pick Ts ids) k X) +ᵍ number_tree x) → ⊥) ⊎ IsDominated Ts ids c k X
