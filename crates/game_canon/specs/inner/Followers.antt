-- How far a list of followers has grown.
use Rattle.std.specs.Prelude.{ℕ, ◌≡◌, ◌<◌, ◌≤◌, ◌⊎◌, List, length}
use Rattle.std.specs.List.{slice_index_or}
use Rattle.short_games.specs.Tree.{Tree, tree_at, AreDistinct}
use Rattle.short_games.specs.Number.{IsNumberTree}
use Rattle.short_games.specs.Parts.{IsOption, IsPart}
use Rattle.game_canon.specs.Followers.{IsIn}

-- us has the ids ks, behind them ids of trees that pass and are not left out, and all trees that pass but for those left out
pub record IsGathered (Ts : List Tree) (IsLeftOut Passes : Tree → Type 0) (ks us : List ℕ) : Type 0 where
  pub longer : length ks ≤ length us
  pub same : (j : ℕ) → j < length ks → slice_index_or us j 0 ≡ slice_index_or ks j 0
  pub below : (j : ℕ) → j < length us → length ks ≤ j → slice_index_or us j 0 < length Ts
  pub passes : (j : ℕ) → j < length us → length ks ≤ j → Passes (tree_at Ts (slice_index_or us j 0))
  pub wanted : (j : ℕ) → j < length us → length ks ≤ j → IsLeftOut (tree_at Ts (slice_index_or us j 0)) → ⊥
  pub has : (X : Tree) → Passes X → IsLeftOut X ⊎ IsIn Ts us X

-- us has the ids ks, behind them ids of trees that pass and are no numbers, and all trees that pass but for numbers
abbrev pub IsGrown : List Tree → (Tree → Type 0) → List ℕ → List ℕ → Type 0
IsGrown Ts Passes ks us = IsGathered Ts IsNumberTree Passes ks us

-- a part of an option of G
abbrev pub IsPartOfOption : Tree → Tree → Type 0
IsPartOfOption G X = (H : Tree) × IsOption G H × IsPart H X

-- different parts of the options of G
pub record ArePartsOfOptions (G : Tree) (Xs : List Tree) : Type 0 where
  pub each : (j : ℕ) → j < length Xs → IsPartOfOption G (tree_at Xs j)
  pub different : AreDistinct Xs

-- the options of G have exactly n different parts together
abbrev pub HasBelow : Tree → ℕ → Type 0
HasBelow G n = (Xs : List Tree) × ArePartsOfOptions G Xs × ((X : Tree) → IsPartOfOption G X → (j : ℕ) × (j < length Xs) × (tree_at Xs j ≡ X)) × (length Xs ≡ n)

-- the options of G have more than n different parts together
abbrev pub HasMoreBelow : Tree → ℕ → Type 0
HasMoreBelow G n = (Xs : List Tree) × ArePartsOfOptions G Xs × (n < length Xs)
