-- Numbers over different powers of two, brought to one.
use Rattle.std.proofs.Common.{ℕ, ◌+◌, ◌^◌, ◌≡◌, ◌↔◌, arith, sym, ◌∙◌, ap, subst, ℤ, pos, ◌+ℤ◌, ◌*ℤ◌, ◌≤ℤ◌}
use Rattle.std.proofs.lemmas.Int.{ints}
use Rattle.short_games.specs.Order.{◌≤ᵍ◌, ◌≡ᵍ◌}
use Rattle.short_games.specs.Sum.{◌+ᵍ◌}
use Rattle.short_games.specs.Number.{num}
use Rattle.short_games.proofs.OrderLaws.{le-trans, same-path}
use Rattle.short_games.proofs.NumberLaws.{num-le, num-plus_le, num-le_plus}
use Rattle.short_games.proofs.ThresholdLaws.{le-num}
use Rattle.short_games.proofs.StopLaws.{num-scaled}

-- the first of two numbers over the product of both powers
first-common : (d e : ℕ) (m : ℤ) → num d m ≡ num (d + e) (m *ℤ pos (2 ^ e))
first-common d e m = sym (num-scaled e d m) ∙ ap (λ k. num k (m *ℤ pos (2 ^ e))) (omega arith)

second-common : (d e : ℕ) (n : ℤ) → num e n ≡ num (d + e) (n *ℤ pos (2 ^ d))
second-common d e n = sym (num-scaled d e n)

pub numbers-order : (d e : ℕ) (m n : ℤ) → (num d m ≤ᵍ num e n) ↔ ((m *ℤ pos (2 ^ e)) ≤ℤ (n *ℤ pos (2 ^ d)))
numbers-order d e m n = rw (first-common d e m, second-common d e n) (le-num (d + e) _ _, num-le (d + e) _ _)

pub equal-numbers : (e : ℕ) (m n : ℤ) → num e m ≡ᵍ num e n → m ≡ n
equal-numbers e m n s = let p = le-num e m n s.0 in let q = le-num e n m s.1 in omega (arith, ints, p, q)

pub numbers-one_tree : (d e : ℕ) (m n : ℤ) → (num d m ≡ num e n) ↔ ((m *ℤ pos (2 ^ e)) ≡ (n *ℤ pos (2 ^ d)))
numbers-one_tree d e m n = rw (first-common d e m, second-common d e n) (
  λ s. equal-numbers (d + e) _ _ (same-path _ _ s),
  λ i. ap (num (d + e)) i,
)

pub numbers-sum : (e : ℕ) (m n : ℤ) → (num e m +ᵍ num e n) ≡ᵍ num e (m +ℤ n)
numbers-sum e m n = (num-plus_le e m n, num-le_plus e m n)

pub numbers-add : (d e : ℕ) (m n : ℤ) → (num d m +ᵍ num e n) ≡ᵍ num (d + e) ((m *ℤ pos (2 ^ e)) +ℤ (n *ℤ pos (2 ^ d)))
numbers-add d e m n = rw (first-common d e m, second-common d e n) (numbers-sum (d + e) _ _)

pub numbers-add_once : (e : ℕ) (m n k : ℤ) → ((num e m +ᵍ num e n) ≡ᵍ num e k) ↔ (m +ℤ n ≡ k)
numbers-add_once e m n k = (
  λ s. equal-numbers e (m +ℤ n) k (le-trans _ _ _ (num-le_plus e m n) s.0, le-trans _ _ _ s.1 (num-plus_le e m n)),
  λ i. subst (λ z. (num e m +ᵍ num e n) ≡ᵍ num e z) i (numbers-sum e m n),
)
