-- The tree of m / 2 ^ e is that number: trees of numbers are ordered, equal, added and turned as the numbers are.
use Rattle.std.specs.Prelude.{ℕ, ◌+◌, ◌^◌, ◌≡◌, ◌↔◌, ℤ, pos, neg_ℤ, ◌+ℤ◌, ◌*ℤ◌, ◌≤ℤ◌}
use Rattle.short_games.specs.Tree.{neg}
use Rattle.short_games.specs.Order.{◌≤ᵍ◌, ◌≡ᵍ◌}
use Rattle.short_games.specs.Sum.{◌+ᵍ◌}
use Rattle.short_games.specs.Number.{num}
use Rattle.short_games.specs.TextOrder.{IsCanonicalTree}

-- m / 2 ^ d is at most n / 2 ^ e as a game where m * 2 ^ e is at most n * 2 ^ d
abbrev pub NumbersOrder : Type 0
NumbersOrder = (d e : ℕ) (m n : ℤ) → (num d m ≤ᵍ num e n) ↔ ((m *ℤ pos (2 ^ e)) ≤ℤ (n *ℤ pos (2 ^ d)))

-- m / 2 ^ d and n / 2 ^ e have the same tree where m * 2 ^ e is n * 2 ^ d
abbrev pub NumbersHaveOneTree : Type 0
NumbersHaveOneTree = (d e : ℕ) (m n : ℤ) → (num d m ≡ num e n) ↔ ((m *ℤ pos (2 ^ e)) ≡ (n *ℤ pos (2 ^ d)))

-- m / 2 ^ d and n / 2 ^ e add up to (m * 2 ^ e + n * 2 ^ d) / 2 ^ (d + e)
abbrev pub NumbersAdd : Type 0
NumbersAdd = (d e : ℕ) (m n : ℤ) → (num d m +ᵍ num e n) ≡ᵍ num (d + e) ((m *ℤ pos (2 ^ e)) +ℤ (n *ℤ pos (2 ^ d)))

-- over one power of two, numbers add up to the number of their sum and to no other
abbrev pub NumbersAddOnce : Type 0
NumbersAddOnce = (e : ℕ) (m n k : ℤ) → ((num e m +ᵍ num e n) ≡ᵍ num e k) ↔ (m +ℤ n ≡ k)

-- the negative of a number's tree is the tree of the opposite number
abbrev pub NumbersTurn : Type 0
NumbersTurn = (e : ℕ) (m : ℤ) → neg (num e m) ≡ num e (neg_ℤ m)

-- the tree of a number is canonical
abbrev pub NumbersAreCanonical : Type 0
NumbersAreCanonical = (e : ℕ) (m : ℤ) → IsCanonicalTree (num e m)
