-- The games that are compared: those of a store, and of a form beside it.
use Rattle.std.specs.Prelude.{ℕ, ◌≡◌, ◌<◌, List, [], ◌∷◌, ◌++◌, length, Bool, Option, Some, None}
use Rattle.dyadic_num.specs.declared.TheConstants.{EXPONENT}
use Rattle.short_games.specs.Tree.{Tree, tree_at, AreDistinct}
use Rattle.short_games.specs.Number.{IsNumber}
use Rattle.short_games.specs.Threshold.{IsFloor, IsCeiling}
use Rattle.game_store.specs.Meaning.{form, AreIds, IsAscending}
use Rattle.game_canon.specs.Comparisons.{AreRight}
use Rattle.game_canon.specs.inner.Comparisons.{recalled}
use Rattle.game_canon.specs.declared.games.Games.{Games}
use Rattle.game_canon.specs.declared.games.Unstored.{Unstored}

-- the trees of a store, and behind them that of the form beside it, where there is one
abbrev pub with_unstored : List Tree → Option Unstored → List Tree
with_unstored Ts None = Ts
with_unstored Ts (Some u) = Ts ++ form Ts u.left.now u.right.now ∷ []

-- the tree of each id of the games
abbrev pub trees : Games → List Tree
trees games = with_unstored games.store.now games.unstored

-- a form that is no number, with options of the store
pub record IsUnstored (Ts : List Tree) (u : Unstored) : Type 0 where
  pub left_ids : AreIds Ts u.left.now
  pub right_ids : AreIds Ts u.right.now
  pub left_ascends : IsAscending u.left.now
  pub right_ascends : IsAscending u.right.now
  pub left_some : 0 < length u.left.now
  pub right_some : 0 < length u.right.now
  pub no_number : IsNumber (form Ts u.left.now u.right.now) → ⊥
  pub floor_is : IsFloor EXPONENT (form Ts u.left.now u.right.now) u.standing.now.floor
  pub ceiling_is : IsCeiling EXPONENT (form Ts u.left.now u.right.now) u.standing.now.ceiling

-- the form beside the store, where there is one, is no number and has options of the store
abbrev pub IsBeside : List Tree → Option Unstored → Type 0
IsBeside Ts None = Unit {0}
IsBeside Ts (Some u) = IsUnstored Ts u

-- the trees of the store are different, the form beside it is no number, and what was compared earlier is right
pub record AreGames (games : Games) : Type 0 where
  pub distinct : AreDistinct games.store.now
  pub beside : IsBeside games.store.now games.unstored
  pub earlier : AreRight games.store.now (recalled games.earlier.now)

-- the tree of the form beside the store
abbrev pub beside : Games → Tree
beside games = tree_at (trees games) (length games.store.now)

-- there is a form beside the store
abbrev pub HasForm : Games → Type 0
HasForm games = (u : Unstored) × (games.unstored ≡ Some u)

-- the form beside the store has these options
abbrev pub IsFormBeside : Games → List ℕ → List ℕ → Type 0
IsFormBeside games ls rs = (u : Unstored) × (games.unstored ≡ Some u) × (u.left.now ≡ ls) × (u.right.now ≡ rs)

-- the games, and right comparisons of them
pub record IsKnown (games : Games) (known : ℕ → ℕ → Option Bool) : Type 0 where
  pub games_are : AreGames games
  pub right : AreRight (trees games) known
