-- Nimbers: their options, and that they add up by the rule of nim.
use Rattle.std.proofs.Common.{ℕ, zero, suc, ◌+◌, ◌/◌, ◌%◌, ◌<◌, ◌≡◌, ◌⊎◌, arith, refl, inl, inr, sym, ◌∙◌, ap, ap₂, subst, pos, neg_ℤ}
use Rattle.std.proofs.lemmas.Int.{ints}
use Rattle.std.proofs.lemmas.Bool.{cases_lt}
use Rattle.std.specs.Int.Bits.{bit_xor, xor_self, xor_zero_r, xor_assoc}
use Rattle.std.proofs.lemmas.Nat.{xor_comm, xor_shr, xor_mod}
use Rattle.short_games.specs.Tree.{Tree, node, more, left, Has, neg, neg_each}
use Rattle.short_games.specs.Order.{◌≤ᵍ◌, ◌≡ᵍ◌}
use Rattle.short_games.specs.Sum.{◌+ᵍ◌}
use Rattle.short_games.specs.Number.{num, IsNumber}
use Rattle.short_games.specs.Nimbers.{nimber, nimbers_below}
use Rattle.short_games.specs.KnownValues.{AreConfused}
use Rattle.short_games.proofs.OrderLaws.{by_measure, le-in, le-trans, not-le}
use Rattle.short_games.proofs.SumLaws.{InSum, left_of_sum, right_in_first, right_in_second, not_le_left, not_right_le, neg-le, neg-plus}
use Rattle.short_games.proofs.SumLaws.InSum.{in_first, in_second}
use Rattle.short_games.proofs.NumberLaws.{neg-num, num-zero}
use Rattle.short_games.proofs.DyadicLaws.{equal-numbers}

-- the nim sum takes back what it adds
pub xor-back : (m n : ℕ) → bit_xor (bit_xor m n) n ≡ m
xor-back m n = xor_assoc m n n ∙ ap (bit_xor m) (xor_self n) ∙ xor_zero_r m

pub xor-cancel : (a b n : ℕ) → bit_xor a n ≡ bit_xor b n → a ≡ b
xor-cancel a b n e = sym (xor-back a n) ∙ ap (λ x. bit_xor x n) e ∙ xor-back b n

digit : (x : ℕ) → x < 2 → (x ≡ 0) ⊎ (x ≡ 1)
digit x l = elim (cases_lt x 1) [ inl a ↦ inl (omega (arith, a)) | inr a ↦ inr (omega (arith, a, l)) ]

-- what is below a nim sum comes about where one of its two terms is made smaller
abbrev Comes : (j m n : ℕ) → Type 0
Comes j m n = (bit_xor j n < m) ⊎ (bit_xor j m < n)

-- by the lowest digits, where the others of j are those of the sum
lowest : (j m n a b : ℕ) → j / 2 ≡ bit_xor (m / 2) (n / 2) → j % 2 ≡ 0 → m % 2 ≡ a → n % 2 ≡ b → (a ≡ 0) ⊎ (a ≡ 1) → (b ≡ 0) ⊎ (b ≡ 1)
    → 0 < bit_xor a b → Comes j m n
lowest j m n a b high low p q d e l = elim d [
  | inl x ↦ elim e [
    | inl y ↦ absurd (omega (arith, subst (λ z. 0 < bit_xor z b) x l, subst (λ z. 0 < bit_xor 0 z) y (subst (λ z. 0 < bit_xor z b) x l)))
    | inr y ↦ inr (below j n m (ap (λ z. bit_xor z (m / 2)) (high ∙ xor_comm (m / 2) (n / 2)) ∙ xor-back (n / 2) (m / 2)) (low) (p ∙ x) (q ∙ y))
  ]
  | inr x ↦ elim e [
    | inl y ↦ inl (below j m n (ap (λ z. bit_xor z (n / 2)) high ∙ xor-back (m / 2) (n / 2)) low (q ∙ y) (p ∙ x))
    | inr y ↦ absurd (omega (arith, subst (λ z. 0 < bit_xor 1 z) y (subst (λ z. 0 < bit_xor z b) x l)))
  ]
]
  where
    below : (j m n : ℕ) → bit_xor (j / 2) (n / 2) ≡ m / 2 → j % 2 ≡ 0 → n % 2 ≡ 0 → m % 2 ≡ 1 → bit_xor j n < m
    below j m n high low even odd =
        let top : bit_xor j n / 2 ≡ m / 2 = xor_shr j n 1 ∙ high in
        let end : bit_xor j n % 2 ≡ 0 = xor_mod j n 1 ∙ ap₂ bit_xor low even in
        omega (arith, top, end, odd)

comes_step : (j m n : ℕ) → ((i k l : ℕ) → k + l < m + n → i < bit_xor k l → Comes i k l) → j < bit_xor m n → Comes j m n
comes_step j m n ih l =
    let top : bit_xor m n / 2 ≡ bit_xor (m / 2) (n / 2) = xor_shr m n 1 in
    let end : bit_xor m n % 2 ≡ bit_xor (m % 2) (n % 2) = xor_mod m n 1 in
    elim (cases_lt (j / 2) (bit_xor (m / 2) (n / 2))) [
      | inl a ↦ elim (ih (j / 2) (m / 2) (n / 2) (shrinks a) a) [
        | inl b ↦ inl (let t : bit_xor j n / 2 ≡ bit_xor (j / 2) (n / 2) = xor_shr j n 1 in omega (arith, t, b))
        | inr b ↦ inr (let t : bit_xor j m / 2 ≡ bit_xor (j / 2) (m / 2) = xor_shr j m 1 in omega (arith, t, b))
      ]
      | inr a ↦ lowest j m n (m % 2) (n % 2) (omega (arith, top, end, a, l, end_below)) (omega (arith, top, end, a, l, end_below)) refl refl (digit (m % 2) (omega arith)) (digit (n % 2) (omega arith))
          (omega (arith, top, end, a, l))
    ]
  where
    end_below : bit_xor m n % 2 < 2
    end_below = omega arith

    shrinks : j / 2 < bit_xor (m / 2) (n / 2) → m / 2 + n / 2 < m + n
    shrinks a = elim (cases_lt 0 (m + n)) [
      | inl b ↦ omega (arith, b)
      | inr b ↦ absurd (let p : m / 2 ≡ 0 = omega (arith, b) in let q : n / 2 ≡ 0 = omega (arith, b) in omega (arith, subst (λ z. j / 2 < bit_xor 0 z) q (subst (λ z. j / 2 < bit_xor z (n / 2)) p a)))
    ]

pub comes : (j m n : ℕ) → j < bit_xor m n → Comes j m n
comes j m n = by_measure {A = ℕ × ℕ × ℕ} (λ p. p.1 + p.2) (λ p. p.0 < bit_xor p.1 p.2 → Comes p.0 p.1 p.2) (λ p ih. comes_step p.0 p.1 p.2 (λ i k l b. ih (i, k, l) b)) (j, m, n)

-- the options of a nimber
pub has-below : (n k : ℕ) → k < n → Has (nimbers_below n) (nimber k)
unfolding nimbers_below
has-below zero k l = absurd (omega (arith, l))
has-below (suc n) k l = elim (cases_lt k n) [ inl a ↦ inr (has-below n k a) | inr a ↦ inl (ap nimber (omega (arith, a, l))) ]

pub below-has : (n : ℕ) (X : Tree) → Has (nimbers_below n) X → (k : ℕ) × (k < n) × (X ≡ nimber k)
unfolding nimbers_below
below-has zero X h = absurd h
below-has (suc n) X (inl e) = (n, omega arith, e)
below-has (suc n) X (inr h) = let r = below-has n X h in (r.0, omega (arith, r.1), r.2)

below-turned : (n : ℕ) → neg_each (nimbers_below n) ≡ nimbers_below n
unfolding nimbers_below neg
below-turned zero = refl
below-turned (suc n) = ap₂ more (ap₂ node (below-turned n) (below-turned n)) (below-turned n)

pub nimber-turned : (n : ℕ) → neg (nimber n) ≡ nimber n
unfolding neg
nimber-turned n = ap₂ node (below-turned n) (below-turned n)

-- no nimber is at most another
pub nimber-apart : (m n : ℕ) → (m ≡ n → ⊥) → nimber m ≤ᵍ nimber n → ⊥
nimber-apart m n f p = elim (cases_lt m n) [
  | inl a ↦ not_right_le (nimber n) (nimber m) (has-below n m a) p
  | inr a ↦ elim (cases_lt n m) [ inl b ↦ not_le_left (nimber m) (nimber n) (has-below m n b) p | inr b ↦ f (omega (arith, a, b)) ]
]

pub nimbers-confused : (m n : ℕ) → (m ≡ n → ⊥) → AreConfused (nimber m) (nimber n)
nimbers-confused m n f = (not-le (nimber n) (nimber m) (nimber-apart n m (λ e. f (sym e))), not-le (nimber m) (nimber n) (nimber-apart m n f))

-- the sum of two nimbers
abbrev IsNimSum : (m n : ℕ) → Type 0
IsNimSum m n = (nimber m +ᵍ nimber n) ≡ᵍ nimber (bit_xor m n)

nim_step : (m n : ℕ) → ((k l : ℕ) → k + l < m + n → IsNimSum k l) → IsNimSum m n
nim_step m n ih = (under, rw (neg-plus, nimber-turned (bit_xor m n), nimber-turned m, nimber-turned n) at (neg-le _ _ under))
  where
    from_left : (X : Tree) → InSum (nimber m) (nimber n) (left (nimber m)) (left (nimber n)) X → nimber (bit_xor m n) ≤ᵍ X → ⊥
    from_left _ (in_first K h) y = let r = below-has m K h in
        nimber-apart (bit_xor m n) (bit_xor r.0 n) (λ e. (let i = xor-cancel m r.0 n e in omega (arith, i, r.1)))
        (le-trans _ _ _ (subst (λ t. nimber (bit_xor m n) ≤ᵍ t +ᵍ nimber n) r.2 y) (ih r.0 n (omega (arith, r.1))).0)
    from_left _ (in_second K h) y = let r = below-has n K h in
        nimber-apart (bit_xor m n) (bit_xor m r.0) (λ e. (let i = xor-cancel n r.0 m (xor_comm n m ∙ e ∙ xor_comm m r.0) in omega (arith, i, r.1)))
        (le-trans _ _ _ (subst (λ t. nimber (bit_xor m n) ≤ᵍ nimber m +ᵍ t) r.2 y) (ih m r.0 (omega (arith, r.1))).0)

    from_right : (j : ℕ) → j < bit_xor m n → nimber j ≤ᵍ nimber m +ᵍ nimber n → ⊥
    from_right j l y = elim (comes j m n l) [
      | inl a ↦ not_right_le _ (nimber (bit_xor j n) +ᵍ nimber n) (right_in_first (nimber m) (nimber n) _ (has-below m _ a))
          (le-trans _ _ _ (subst (λ k. nimber (bit_xor j n) +ᵍ nimber n ≤ᵍ nimber k) (xor-back j n) (ih (bit_xor j n) n (omega (arith, a))).0) y)
      | inr a ↦ not_right_le _ (nimber m +ᵍ nimber (bit_xor j m)) (right_in_second (nimber m) (nimber n) _ (has-below n _ a))
          (le-trans _ _ _ (subst (λ k. nimber m +ᵍ nimber (bit_xor j m) ≤ᵍ nimber k) (xor_comm m (bit_xor j m) ∙ xor-back j m) (ih m (bit_xor j m) (omega (arith, a))).0) y)
    ]

    under : nimber m +ᵍ nimber n ≤ᵍ nimber (bit_xor m n)
    under = le-in _ _ record {
      from_left = λ X h. from_left X (left_of_sum (nimber m) (nimber n) X h);
      from_right = λ X h y. (let r = below-has (bit_xor m n) X h in from_right r.0 r.1 (subst (λ t. t ≤ᵍ nimber m +ᵍ nimber n) r.2 y));
    }

pub nimbers-add : (m n : ℕ) → (nimber m +ᵍ nimber n) ≡ᵍ nimber (bit_xor m n)
nimbers-add m n = by_measure {A = ℕ × ℕ} (λ p. p.0 + p.1) (λ p. IsNimSum p.0 p.1) (λ p ih. nim_step p.0 p.1 (λ k l b. ih (k, l) b)) (m, n)

-- a number that is its own opposite is 0, and so no other nimber
pub nimber-no_number : (n : ℕ) → IsNumber (nimber (suc n)) → ⊥
unfolding nimbers_below
nimber-no_number n (e, m, p, q) =
    let up = rw (nimber-turned (suc n), neg-num e m) at (neg-le _ _ q) in
    let down = rw (nimber-turned (suc n), neg-num e m) at (neg-le _ _ p) in
    let i : m ≡ neg_ℤ m = equal-numbers e m (neg_ℤ m) (le-trans _ (nimber (suc n)) _ q up, le-trans _ (nimber (suc n)) _ down p) in
    let z : m ≡ pos 0 = omega (arith, ints, i) in
    nimber-apart (suc n) 0 (λ s. omega (arith, s)) (subst (λ t. nimber (suc n) ≤ᵍ t) (ap (num e) z ∙ num-zero e) p)
