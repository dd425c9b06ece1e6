-- The nimber of n has exactly n parts.
use Rattle.std.proofs.Common.{ℕ, zero, suc, ◌-◌, ◌<◌, ◌≤◌, ◌≡◌, List, [], ◌∷◌, length, arith, refl, inl, inr, sym, ◌∙◌, ap, subst, pos}
use Rattle.std.specs.Prelude.{◌⊎◌}
use Rattle.std.proofs.lemmas.Bool.{cases_lt}
use Rattle.short_games.specs.Tree.{Tree, tree_at}
use Rattle.short_games.specs.Number.{IsNumber}
use Rattle.short_games.specs.Parts.{IsOption, IsFollower, IsPart, HasMoreParts}
use Rattle.short_games.specs.Parts.IsFollower.{itself, further}
use Rattle.short_games.proofs.ReductionLaws.{canonical-number, canonical-same}
use Rattle.game_canon.specs.Outcomes.{IsPastBounds, IsCause}
use Rattle.game_canon.specs.declared.errors.FormError.TheVariants.{Parts}
use Rattle.game_canon.proofs.PartLaws.{fewer}
use Rattle.game_text.specs.NamedText.{nimber}
use Rattle.game_text.proofs.NimberLaws.{option-nimber, nimber-option, nimber-same, nimber-no_number, nimber-canonical}
use Rattle.game_text.proofs.FoundNameLaws.{zero-tree}

follower-nimber : (G X : Tree) → IsFollower G X → (n : ℕ) → G ≡ nimber n → (k : ℕ) × (k ≤ n) × (X ≡ nimber k)
follower-nimber _ _ (itself G) n e = (n, omega arith, e)
follower-nimber _ _ (further G H X o f) n e =
    let r : (k : ℕ) × (k < n) × (H ≡ nimber k) = elim (subst (λ z. IsOption z H) e o) [ inl h ↦ option-nimber n H h | inr h ↦ option-nimber n H h ] in
    let s = follower-nimber H X f r.0 r.2 in (s.0, omega (arith, s.1, r.1), s.2)

part-nimber : (n : ℕ) (X : Tree) → IsPart (nimber n) X → (k : ℕ) × (k < n) × (X ≡ nimber (suc k))
part-nimber n X p = let r = follower-nimber (nimber n) X p.0 n refl in at r.0 r.1 r.2
  where
    at : (k : ℕ) → k ≤ n → X ≡ nimber k → (k : ℕ) × (k < n) × (X ≡ nimber (suc k))
    at zero l e = absurd (p.1 (60, pos 0, e ∙ zero-tree))
    at (suc k) l e = (k, omega (arith, l), e)

pub few-parts : (n limit : ℕ) → n ≤ limit → HasMoreParts (nimber n) limit → ⊥
few-parts n limit l (Xs, p, m) = (
    let f : length Xs ≤ n = fewer (length Xs) n (λ j k. tree_at Xs j ≡ nimber (suc k)) (λ j h. part-nimber n (tree_at Xs j) (p.each j h)) (λ i j k h g a b. p.different i j h g (a ∙ sym b)) in
    omega (arith, f, l, m))

nimber_list : ℕ → List Tree
nimber_list zero = []
nimber_list (suc n) = nimber (suc n) ∷ nimber_list n

list-long : (n : ℕ) → length (nimber_list n) ≡ n
unfolding nimber_list
list-long zero = refl
list-long (suc n) = ap suc (list-long n)

list-at : (n j : ℕ) → j < n → tree_at (nimber_list n) j ≡ nimber (n - j)
unfolding nimber_list
list-at zero j l = absurd (omega (arith, l))
list-at (suc n) zero l = ap (λ k. nimber k) (let e : suc n ≡ suc n - 0 = omega arith in e)
list-at (suc n) (suc j) l = list-at n j (omega (arith, l)) ∙ ap (λ k. nimber k) (let e : n - j ≡ suc n - suc j = omega arith in e)

is-part : (n k : ℕ) → 0 < k → k ≤ n → IsPart (nimber n) (nimber k)
is-part n k l m = (at (cases_lt k n), nimber-no_number k l)
  where
    at : (k < n) ⊎ (n ≤ k) → IsFollower (nimber n) (nimber k)
    at (inl h) = further (nimber n) (nimber k) (nimber k) (inl (nimber-option n k h)) (itself (nimber k))
    at (inr h) = subst (λ i. IsFollower (nimber n) (nimber i)) (let e : n ≡ k = omega (arith, h, m) in e) (itself (nimber n))

pub many-parts : (n limit : ℕ) → limit < n → HasMoreParts (nimber n) limit
many-parts n limit l = (
  nimber_list n,
  record {
    each = λ j h. (let k : j < n = omega (arith, h, list-long n) in subst (IsPart (nimber n)) (sym (list-at n j k)) (is-part n (n - j) (omega (arith, k)) (omega arith)));
    different = λ i j h k e. (let a : i < n = omega (arith, h, list-long n) in let b : j < n = omega (arith, k, list-long n) in let d = nimber-same (n - i) (n - j) (sym (list-at n i a) ∙ e ∙ list-at n j b) in omega (arith, a, b, d));
  },
  omega (arith, l, list-long n),
)

no-number : (n : ℕ) → 0 < n → IsNumber (nimber n) → ⊥
no-number n l m = nimber-no_number n l (m.0, m.1, canonical-number (nimber n) (nimber-canonical n) m)

pub nimber-cause : (n limit : ℕ) → 0 < n → limit < n → IsCause (nimber n) limit Parts
nimber-cause n limit l m = (no-number n l, λ C c. subst (λ z. HasMoreParts z limit) (canonical-same (nimber n) C (nimber-canonical n) c.canonical c.under c.over) (many-parts n limit m))

pub nimber-within : (n : ℕ) → 0 < n → IsPastBounds (nimber n) → ⊥
nimber-within n l p = no-number n l p.0
