-- What comparing sums of two games, pair by pair, has found so far.
use Rattle.std.specs.Prelude.{ℕ, ◌+◌, ◌≡◌, ◌⊎◌, ◌<◌, ◌≤◌, ◌↔◌, List, Bool, Option, Some, None, cond, ℤ, ◌+ℤ◌}
use Rattle.indexmap.specs.IndexMap.{IndexMap}
use Rattle.dyadic_num.specs.declared.TheConstants.{EXPONENT}
use Rattle.short_games.specs.Tree.{Tree, Trees, left, right, Has, tree_at}
use Rattle.short_games.specs.Number.{IsNumberTree}
use Rattle.short_games.specs.Order.{◌≤ᵍ◌}
use Rattle.short_games.specs.Sum.{◌+ᵍ◌}
use Rattle.short_games.specs.Threshold.{IsFloor, IsCeiling}
use Rattle.game_store.specs.Meaning.{pick, AreBelow, IsAscending}
use Rattle.game_canon.specs.declared.sums.SumPair.{SumPair}
use Rattle.game_canon.specs.declared.sums.Place.{Place}
use Rattle.game_canon.specs.declared.sums.Place.TheVariants.{First, Second, Third, Fourth}
use Rattle.game_canon.specs.declared.sums_at_most.SumQuestion.{SumQuestion}
use Rattle.game_canon.specs.declared.sums_at_most.SumStep.{SumStep}
use Rattle.game_canon.specs.declared.sums_at_most.SumStep.TheVariants.{Answer, Ask}
use Rattle.game_canon.specs.SumComparisons.{IsSumWithin, Tells, same_games, answer_in, AreStored}

-- both sums of a pair are of the same two games
abbrev pub AreSameSums : SumPair → Type 0
AreSameSums p = ((p.first ≡ p.third) × (p.second ≡ p.fourth)) ⊎ ((p.first ≡ p.fourth) × (p.second ≡ p.third))

-- what a map remembers of a pair of sums
abbrev pub recalled_sums : {S : Type 0} → IndexMap SumPair Bool S → SumPair → Option Bool
recalled_sums memo = answer_in memo.entries

-- what is remembered of each pair of sums after one more answer
abbrev pub with_sums : (SumPair → Option Bool) → SumPair → Bool → SumPair → Option Bool
with_sums known p answer q = cond (same_games p q) (Some answer) (known q)

-- the four games of a pair of sums are numbers
pub record AreNumbers (Ts : List Tree) (p : SumPair) : Type 0 where
  pub first_number : IsNumberTree (tree_at Ts p.first)
  pub second_number : IsNumberTree (tree_at Ts p.second)
  pub third_number : IsNumberTree (tree_at Ts p.third)
  pub fourth_number : IsNumberTree (tree_at Ts p.fourth)

-- k is what the floors of two games add up to
abbrev pub AreFloors : List Tree → ℕ → ℕ → ℤ → Type 0
AreFloors Ts a b k = (f : ℤ) × (g : ℤ) × IsFloor EXPONENT (tree_at Ts a) f × IsFloor EXPONENT (tree_at Ts b) g × (k ≡ f +ℤ g)

-- k is what the ceilings of two games add up to
abbrev pub AreCeilings : List Tree → ℕ → ℕ → ℤ → Type 0
AreCeilings Ts a b k = (f : ℤ) × (g : ℤ) × IsCeiling EXPONENT (tree_at Ts a) f × IsCeiling EXPONENT (tree_at Ts b) g × (k ≡ f +ℤ g)

-- a comparison of two sums, not of numbers alone, that isn't remembered
pub record AreOpen (Ts : List Tree) (known : SumPair → Option Bool) (p : SumPair) : Type 0 where
  pub ids : AreStored Ts p
  pub hot : AreNumbers Ts p → ⊥
  pub unknown : known p ≡ None

-- the game at a place of a pair of sums
abbrev pub game_at : SumPair → Place → ℕ
game_at p First = p.first
game_at p Second = p.second
game_at p Third = p.third
game_at p Fourth = p.fourth

-- the options of a game at a place with which a comparison of sums may be countered: Left's in the first sum, and Right's
-- in the second
abbrev pub options_at : Place → Tree → Trees
options_at First = left
options_at Second = left
options_at Third = right
options_at Fourth = right

-- X is an option of G, of the side that is given, and G is no number
abbrev pub IsMoveIn : (Tree → Trees) → Tree → Tree → Type 0
IsMoveIn options G X = (IsNumberTree G → ⊥) × Has (options G) X

-- the ids of the options of an id's game, of the side that is given, in ascending order; of a number there are none
pub record AreMoves (Ts : List Tree) (options : Tree → Trees) (id : ℕ) (is : List ℕ) : Type 0 where
  pub below : AreBelow id is
  pub has : (X : Tree) → Has (pick Ts is) X ↔ IsMoveIn options (tree_at Ts id) X
  pub ascends : IsAscending is

-- The comparison that counters, after a move in the game at a place to x: where it holds, the first sum isn't at most the
-- second.
abbrev pub counter_by : SumPair → Place → ℕ → SumPair
counter_by p First x = record { first = p.third; second = p.fourth; third = x; fourth = p.second }
counter_by p Second x = record { first = p.third; second = p.fourth; third = p.first; fourth = x }
counter_by p Third x = record { first = x; second = p.fourth; third = p.first; fourth = p.second }
counter_by p Fourth x = record { first = p.third; second = x; third = p.first; fourth = p.second }

-- after a move in the game at a place to X the second sum is at most the first, so that the first isn't at most the second
abbrev pub Counters : List Tree → SumPair → Place → Tree → Type 0
Counters Ts p First X = tree_at Ts p.third +ᵍ tree_at Ts p.fourth ≤ᵍ X +ᵍ tree_at Ts p.second
Counters Ts p Second X = tree_at Ts p.third +ᵍ tree_at Ts p.fourth ≤ᵍ tree_at Ts p.first +ᵍ X
Counters Ts p Third X = X +ᵍ tree_at Ts p.fourth ≤ᵍ tree_at Ts p.first +ᵍ tree_at Ts p.second
Counters Ts p Fourth X = tree_at Ts p.third +ᵍ X ≤ᵍ tree_at Ts p.first +ᵍ tree_at Ts p.second

-- no move in the game at a place counters
abbrev pub Resists : List Tree → SumPair → Place → Type 0
Resists Ts p at = (X : Tree) → IsMoveIn (options_at at) (tree_at Ts (game_at p at)) X → Counters Ts p at X → ⊥

-- how many places of a pair of sums come before this one
abbrev pub rank : Place → ℕ
rank First = 0
rank Second = 1
rank Third = 2
rank Fourth = 3

-- no move in a game before the question's place counters the comparison, and none in the game at the place to an id below
-- the one from which the question goes on
pub record HasResisted (Ts : List Tree) (q : SumQuestion) : Type 0 where
  pub places : (at : Place) → rank at < rank q.place → Resists Ts q.pair at
  pub below : (i : ℕ) → i < q.from → IsMoveIn (options_at q.place) (tree_at Ts (game_at q.pair q.place)) (tree_at Ts i) → Counters Ts q.pair q.place (tree_at Ts i) → ⊥

-- what falls from a comparison to those on which it rests, since options are smaller ids
abbrev pub weight : SumPair → ℕ
weight p = p.first + p.second + p.third + p.fourth

-- the second comparison comes to the same as the first, and is of no greater ids
pub record IsCancelled (p q : SumPair) : Type 0 where
  pub ids : (Ts : List Tree) → AreStored Ts p → AreStored Ts q
  pub same : (Ts : List Tree) → IsSumWithin Ts q ↔ IsSumWithin Ts p
  pub lighter : weight q ≤ weight p

-- what going on with a comparison finds: its answer, or one of smaller ids that has to come first
abbrev pub IsSumStep : List Tree → (SumPair → Option Bool) → SumPair → SumStep → Type 0
IsSumStep Ts known p (Answer answer) = Tells Ts p answer
IsSumStep Ts known p (Ask waiting q) = AreOpen Ts known q × (weight q < weight p) × (waiting.pair ≡ p) × HasResisted Ts waiting
