-- Sums of small games.
use Rattle.std.specs.Prelude.{ℕ, ◌≡◌, ◌<◌, ◌^◌, ◌⊎◌, List, [], ◌∷◌, length, pos}
use Rattle.short_games.specs.Tree.{Tree, tree_at}
use Rattle.short_games.specs.Number.{num}
use Rattle.sum_outcome.specs.Sums.{IsBound}
use Rattle.short_games.specs.Examples.{choice, star}

-- {0|0} or {1|{0|0}}, or a game whose numbers have a size of at most 16
abbrev pub IsSmall : Tree → Type 0
IsSmall G = (G ≡ star) ⊎ ((G ≡ choice (num 0 (pos 1)) star) ⊎ IsBound G (2 ^ 64))

-- each id is that of a small game
abbrev pub AreSmall : List Tree → List ℕ → Type 0
AreSmall Ts [] = Unit {0}
AreSmall Ts (i ∷ is) = (i < length Ts) × IsSmall (tree_at Ts i) × AreSmall Ts is

-- an id of the store, whose game's numbers have a size of at most b
abbrev pub IsSmallId : List Tree → ℕ → ℕ → Type 0
IsSmallId Ts b i = (i < length Ts) × IsBound (tree_at Ts i) b
