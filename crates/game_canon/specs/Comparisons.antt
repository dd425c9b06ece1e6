-- Comparisons that are remembered, and those that wait.
use Rattle.std.specs.Prelude.{ℕ, ◌≡◌, ◌<◌, ◌↔◌, List, length, Bool, IsTrue, nat_eq, ◌&&◌, Option, Some}
use Rattle.short_games.specs.Tree.{Tree, tree_at}
use Rattle.short_games.specs.Order.{◌≤ᵍ◌}

-- whether two pairs of ids are the same
abbrev pub same_pair : ℕ × ℕ → ℕ × ℕ → Bool
same_pair p q = nat_eq p.0 q.0 && nat_eq p.1 q.1

-- the answer says whether the first tree is at most the second
abbrev pub SaysAtMost : List Tree → ℕ → ℕ → Bool → Type 0
SaysAtMost Ts a b answer = IsTrue answer ↔ (tree_at Ts a ≤ᵍ tree_at Ts b)

-- what is remembered of pairs is of ids of the store, and right there
abbrev pub AreRight : List Tree → (ℕ → ℕ → Option Bool) → Type 0
AreRight Ts known = (a b : ℕ) (answer : Bool) → known a b ≡ Some answer → (a < length Ts) × (b < length Ts) × SaysAtMost Ts a b answer
