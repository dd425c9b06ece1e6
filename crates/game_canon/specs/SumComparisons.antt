-- Comparisons of sums of two games: which rest on which, and what is remembered of them.
use Rattle.std.specs.Prelude.{◌≡◌, ◌<◌, ◌↔◌, List, length, Bool, IsTrue, nat_eq, ◌&&◌, Option, Some}
use Rattle.std.specs.Map.{lookup}
use Rattle.short_games.specs.Tree.{Tree, tree_at}
use Rattle.short_games.specs.Order.{◌≤ᵍ◌}
use Rattle.short_games.specs.Sum.{◌+ᵍ◌}
use Rattle.game_store.specs.Meaning.{Extends}
use Rattle.game_canon.specs.declared.sums.SumPair.{SumPair}

-- the first sum of a pair is at most the second
abbrev pub IsSumWithin : List Tree → SumPair → Type 0
IsSumWithin Ts p = tree_at Ts p.first +ᵍ tree_at Ts p.second ≤ᵍ tree_at Ts p.third +ᵍ tree_at Ts p.fourth

-- the answer says whether the first sum of a pair is at most the second
abbrev pub Tells : List Tree → SumPair → Bool → Type 0
Tells Ts p answer = IsTrue answer ↔ IsSumWithin Ts p

-- whether two pairs of sums have the same games at the same places
abbrev pub same_games : SumPair → SumPair → Bool
same_games p q = nat_eq p.first q.first && (nat_eq p.second q.second && (nat_eq p.third q.third && nat_eq p.fourth q.fourth))

-- pairs of sums that are remembered, each with its answer
abbrev pub Compared : Type 0
Compared = List (SumPair × Bool)

-- what is remembered of a pair of sums
abbrev pub answer_in : Compared → SumPair → Option Bool
answer_in memo p = lookup (same_games p) memo

-- the four games of a pair of sums are ids
pub record AreStored (Ts : List Tree) (p : SumPair) : Type 0 where
  pub first_id : p.first < length Ts
  pub second_id : p.second < length Ts
  pub third_id : p.third < length Ts
  pub fourth_id : p.fourth < length Ts

-- what is remembered of pairs of sums is of ids of the store, and right there
abbrev pub AreSumsRight : List Tree → (SumPair → Option Bool) → Type 0
AreSumsRight Ts known = (p : SumPair) (answer : Bool) → known p ≡ Some answer → AreStored Ts p × Tells Ts p answer

-- each pair of sums of the list is of ids of the store, and its answer is right there
abbrev pub AreComparisonsRight : List Tree → Compared → Type 0
AreComparisonsRight Ts memo = AreSumsRight Ts (answer_in memo)

-- comparisons that are right for a store are right for it after more forms were interned
abbrev pub StayRightInGrownStores : Type 0
StayRightInGrownStores = (Ts Us : List Tree) (memo : Compared) → Extends Ts Us → AreComparisonsRight Ts memo → AreComparisonsRight Us memo
