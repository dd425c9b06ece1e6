-- Nimbers: no one is at most another, each is canonical, and none but that of 0 is a number.
use Rattle.std.proofs.Common.{ℕ, zero, suc, ◌<◌, ◌≡◌, arith, refl, inl, inr, sym, ◌∙◌, ap, subst, Bool, true, false, cond}
use Rattle.std.proofs.lemmas.Bool.{cases_lt, cases_order, true≢false}
use Rattle.std.proofs.lemmas.Int.{ints}
use Rattle.short_games.specs.Tree.{Tree, Trees, node, none, more, left, right, Has}
use Rattle.short_games.specs.Order.{◌≤ᵍ◌}
use Rattle.short_games.specs.Number.{num, IsNumberTree}
use Rattle.short_games.specs.TextOrder.{text_before, insert, sorted, IsCanonicalTree}
use Rattle.short_games.specs.inner.Reduction.{IsFreeLeft, KeepsLeft, KeepsRight}
use Rattle.short_games.proofs.OrderLaws.{le-out, le-refl}
use Rattle.short_games.proofs.NumberLaws.{num-left, num-right, num-lt}
use Rattle.short_games.proofs.ReductionLaws.{form-canonical}
use Rattle.short_games.proofs.TextOrderLaws.{text-order, sorted-has, has-sorted}
use Rattle.game_text.specs.NamedText.{nimbers_below, nimber, count}

pub below-has : (n k : ℕ) → k < n → Has (nimbers_below n) (nimber k)
unfolding nimbers_below
below-has zero k l = absurd (omega (arith, l))
below-has (suc n) k l = elim (cases_lt k n) [
  | inl d ↦ inr (below-has n k d)
  | inr d ↦ inl (ap (λ i. nimber i) (let e : k ≡ n = omega (arith, l, d) in e))
]

pub has-below : (n : ℕ) (X : Tree) → Has (nimbers_below n) X → (k : ℕ) × (k < n) × (X ≡ nimber k)
unfolding nimbers_below
has-below zero X h = absurd h
has-below (suc n) X (inl e) = (n, omega arith, e)
has-below (suc n) X (inr h) = let r = has-below n X h in (r.0, omega (arith, r.1), r.2)

-- the options of a nimber
pub option-nimber : (n : ℕ) (X : Tree) → Has (sorted (nimbers_below n)) X → (k : ℕ) × (k < n) × (X ≡ nimber k)
option-nimber n X h = has-below n X (sorted-has (nimbers_below n) X h)

pub nimber-option : (n k : ℕ) → k < n → Has (sorted (nimbers_below n)) (nimber k)
nimber-option n k l = has-sorted (nimbers_below n) (nimber k) (below-has n k l)

pub nimber-le : (m n : ℕ) → nimber m ≤ᵍ nimber n → m ≡ n
nimber-le m n l = elim (cases_order m n) [
  | inl e ↦ e
  | inr o ↦ elim o [
    | inl a ↦ absurd ((le-out (nimber m) (nimber n) l).from_right (nimber m) (nimber-option n m a) (le-refl (nimber m)))
    | inr a ↦ absurd ((le-out (nimber m) (nimber n) l).from_left (nimber n) (nimber-option m n a) (le-refl (nimber n)))
  ]
]

pub nimber-same : (m n : ℕ) → nimber m ≡ nimber n → m ≡ n
nimber-same m n e = nimber-le m n (subst (λ z. nimber m ≤ᵍ z) e (le-refl (nimber m)))

free : (n : ℕ) → IsFreeLeft (nimbers_below n)
free n A B a b l =
    let i = has-below n A a in
    let j = has-below n B b in
    i.2 ∙ ap (λ k. nimber k) (nimber-le i.0 j.0 (subst (λ z. z ≤ᵍ nimber j.0) i.2 (subst (λ z. A ≤ᵍ z) j.2 l))) ∙ sym j.2

below-below : (n : ℕ) (L X : Tree) → Has (nimbers_below n) L → ((k : ℕ) → L ≡ nimber k → Has (sorted (nimbers_below k)) X) → Has (nimbers_below n) X
below-below n L X h f =
    let k = has-below n L h in
    let j = option-nimber k.0 X (f k.0 k.2) in
    subst (Has (nimbers_below n)) (sym j.2) (below-has n j.0 (omega (arith, j.1, k.1)))

kept_left : (n : ℕ) (L : Tree) → Has (nimbers_below n) L → KeepsLeft (node (nimbers_below n) (nimbers_below n)) L
kept_left n L h R r l = (le-out R (node (nimbers_below n) (nimbers_below n)) l).from_right R (below-below n L R h (λ k e. subst (λ z. Has (right z) R) e r)) (le-refl R)

kept_right : (n : ℕ) (R : Tree) → Has (nimbers_below n) R → KeepsRight (node (nimbers_below n) (nimbers_below n)) R
kept_right n R h L r l = (le-out (node (nimbers_below n) (nimbers_below n)) L l).from_left L (below-below n R L h (λ k e. subst (λ z. Has (left z) L) e r)) (le-refl L)

canonical-step : (n : ℕ) → ((X : Tree) → Has (nimbers_below n) X → IsCanonicalTree X) → IsCanonicalTree (nimber n)
canonical-step n f = (form-canonical (nimbers_below n) (nimbers_below n) f f (free n) (free n) (kept_left n) (kept_right n)).canonical

below-canonical : (n : ℕ) (X : Tree) → Has (nimbers_below n) X → IsCanonicalTree X
unfolding nimbers_below
below-canonical zero X h = absurd h
below-canonical (suc n) X (inl e) = subst IsCanonicalTree (sym e) (canonical-step n (below-canonical n))
below-canonical (suc n) X (inr h) = below-canonical n X h

pub nimber-canonical : (n : ℕ) → IsCanonicalTree (nimber n)
nimber-canonical n = canonical-step n (below-canonical n)

-- no tree is an option of a number on both sides
pub both-sides : (G X : Tree) → Has (left G) X → Has (right G) X → IsNumberTree G → ⊥
both-sides G X l r (e, m, q) =
    let a = num-left e m X (subst (λ z. Has (left z) X) q l) in
    let b = num-right e m X (subst (λ z. Has (right z) X) q r) in
    num-lt e a.0 b.0 (omega (arith, ints, a.1, b.1)) (subst (λ z. num e b.0 ≤ᵍ z) (sym b.2 ∙ a.2) (le-refl (num e b.0)))

pub nimber-no_number : (n : ℕ) → 0 < n → IsNumberTree (nimber n) → ⊥
nimber-no_number n l q = both-sides (nimber n) (nimber 0) (nimber-option n 0 l) (nimber-option n 0 l) q

-- a nimber has as many options on a side as its number says
count-insert : (G : Tree) (Gs : Trees) → (Has Gs G → ⊥) → count (insert G Gs) ≡ suc (count Gs)
unfolding insert
count-insert G none f = refl
count-insert G (more H Hs) f = at (text_before G H) refl (text_before H G) refl (count-insert G Hs (λ h. f (inr h)))
  where
    at : (b : Bool) → text_before G H ≡ b → (c : Bool) → text_before H G ≡ c → count (insert G Hs) ≡ suc (count Hs) → count (cond b (more G (more H Hs)) (cond c (more H (insert G Hs)) (more H Hs))) ≡ suc (suc (count Hs))
    at true p c q h = refl
    at false p true q h = ap suc h
    at false p false q h = elim (text-order.total G H) [
      | inl a ↦ absurd (true≢false (sym a ∙ p))
      | inr b ↦ elim b [ inl e ↦ absurd (f (inl e)) | inr a ↦ absurd (true≢false (sym a ∙ q)) ]
    ]

pub nimber-count : (n : ℕ) → count (sorted (nimbers_below n)) ≡ n
unfolding nimbers_below sorted
nimber-count zero = refl
nimber-count (suc n) = count-insert (nimber n) (sorted (nimbers_below n)) (λ h. (let r = option-nimber n (nimber n) h in absurd (let e = nimber-same n r.0 r.2 in omega (arith, e, r.1)))) ∙ ap suc (nimber-count n)
