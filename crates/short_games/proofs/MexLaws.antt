-- Impartial games: each is the nimber of the mex of its options.
use Rattle.std.proofs.Common.{ℕ, zero, suc, ◌+◌, ◌<◌, ◌≡◌, ◌⊎◌, ◌↔◌, arith, refl, inl, inr, sym, subst}
use Rattle.std.proofs.lemmas.Bool.{cases_lt}
use Rattle.short_games.specs.Tree.{Tree, Trees, none, more, left, right, Has, size}
use Rattle.short_games.specs.Order.{◌≤ᵍ◌, ◌≡ᵍ◌}
use Rattle.short_games.specs.Parts.{IsOption}
use Rattle.short_games.specs.Nimbers.{nimber, HasNimber, IsMex, IsImpartial, impartial}
use Rattle.short_games.proofs.OrderLaws.{by_measure, le-in, le-trans, le-or_not, none-or_some, size-option}
use Rattle.short_games.proofs.SumLaws.{not_le_left, not_right_le}
use Rattle.short_games.proofs.NimberLaws.{below-has, nimber-apart}

-- nimbers that are comparable are the same
nimber-same : (m n : ℕ) → nimber m ≤ᵍ nimber n → m ≡ n
nimber-same m n p = elim (cases_lt m n) [
  | inl a ↦ absurd (nimber-apart m n (λ e. omega (arith, a, e)) p)
  | inr a ↦ elim (cases_lt n m) [ inl b ↦ absurd (nimber-apart m n (λ e. omega (arith, b, e)) p) | inr b ↦ omega (arith, a, b) ]
]

pub mex-rule : (G : Tree) (n : ℕ) → ((X : Tree) → IsOption G X → (k : ℕ) × (X ≡ᵍ nimber k)) → IsMex (left G) n → IsMex (right G) n → G ≡ᵍ nimber n
mex-rule G n f a b = (
  le-in G (nimber n) record {
    from_left = λ L l y. (let (k, (p, q)) = f L (inl l) in a.missing (L, l, at L k p q (sym (nimber-same n k (le-trans _ L _ y p)))));
    from_right = λ R r y. (let (j, i, e) = below-has n R r in let (X, x, (p, q)) = b.smaller j i in
        not_right_le G X x (le-trans X (nimber j) G p (subst (λ t. t ≤ᵍ G) e y)));
  },
  le-in (nimber n) G record {
    from_left = λ L l y. (let (j, i, e) = below-has n L l in let (X, x, (p, q)) = a.smaller j i in
        not_le_left G X x (le-trans G (nimber j) X (subst (λ t. G ≤ᵍ t) e y) q));
    from_right = λ R r y. (let (k, (p, q)) = f R (inr r) in b.missing (R, r, at R k p q (nimber-same k n (le-trans _ R _ q y))));
  },
)
  where
    at : (X : Tree) (k : ℕ) → X ≤ᵍ nimber k → nimber k ≤ᵍ X → k ≡ n → X ≡ᵍ nimber n
    at X k p q e = subst (λ m. X ≡ᵍ nimber m) e (p, q)

equal-or_not : (X Y : Tree) → (X ≡ᵍ Y) ⊎ (X ≡ᵍ Y → ⊥)
equal-or_not X Y = elim (le-or_not X Y) [
  | inl p ↦ elim (le-or_not Y X) [ inl q ↦ inl (p, q) | inr f ↦ inr (λ s. f s.1) ]
  | inr f ↦ inr (λ s. f s.0)
]

-- the nimbers of a list are below some number
bounded : (Gs : Trees) → ((X : Tree) → Has Gs X → (k : ℕ) × (X ≡ᵍ nimber k)) → (b : ℕ) × ((k : ℕ) → HasNimber Gs k → k < b)
bounded none f = (0, λ k h. absurd h.1)
bounded (more G Gs) f =
    let (v, (p, q)) = f G (inl refl) in
    let r = bounded Gs (λ X x. f X (inr x)) in (
      suc v + r.0,
      λ k (X, x, (s, t)). elim x [
        | inl e ↦ (let i = nimber-same k v (le-trans _ X _ t (subst (λ Y. Y ≤ᵍ nimber v) (sym e) p)) in omega (arith, i))
        | inr y ↦ (let l = r.1 k (X, y, (s, t)) in omega (arith, l))
      ],
    )

-- a list of nimbers has a mex
search : (Gs : Trees) (b n k : ℕ) → (HasNimber Gs b → ⊥) → k + n ≡ b → ((j : ℕ) → j < k → HasNimber Gs j) → (m : ℕ) × IsMex Gs m
search Gs b zero k f e g = (k, record { missing = λ h. f (subst (HasNimber Gs) (omega (arith, e)) h); smaller = g })
search Gs b (suc n) k f e g = elim (none-or_some (λ X. X ≡ᵍ nimber k) (λ X. equal-or_not X (nimber k)) Gs) [
  | inl none_is ↦ (k, record { missing = λ (X, x, s). none_is X x s; smaller = g })
  | inr h ↦ search Gs b n (suc k) f (omega (arith, e)) (λ j l. elim (cases_lt j k) [ inl a ↦ g j a | inr a ↦ subst (HasNimber Gs) (omega (arith, a, l)) h ])
]

mex : (Gs : Trees) → ((X : Tree) → Has Gs X → (k : ℕ) × (X ≡ᵍ nimber k)) → (m : ℕ) × IsMex Gs m
mex Gs f = let b = bounded Gs f in search Gs b.0 b.0 0 (λ h. (let l = b.1 b.0 h in omega (arith, l))) (omega arith) (λ j l. absurd (omega (arith, l)))

-- of lists with the same trees the mex is one
along : (Gs Hs : Trees) (n : ℕ) → ((X : Tree) → Has Gs X ↔ Has Hs X) → IsMex Gs n → IsMex Hs n
along Gs Hs n f m = record {
  missing = λ (X, x, s). m.missing (X, (f X).1 x, s);
  smaller = λ k l. (let (X, x, s) = m.smaller k l in (X, (f X).0 x, s));
}

pub impartial-nimber : (G : Tree) → IsImpartial G → (n : ℕ) × (G ≡ᵍ nimber n)
impartial-nimber = by_measure size (λ G. IsImpartial G → (n : ℕ) × (G ≡ᵍ nimber n)) step
  where
    step : (G : Tree) → ((X : Tree) → size X < size G → IsImpartial X → (n : ℕ) × (X ≡ᵍ nimber n)) → IsImpartial G → (n : ℕ) × (G ≡ᵍ nimber n)
    step G ih (impartial same each) =
        let value = λ (X : Tree) (o : IsOption G X). ih X (size-option G X o) (each X o) in
        let m = mex (left G) (λ X x. value X (inl x)) in
        (m.0, mex-rule G m.0 value m.1 (along (left G) (right G) m.0 same m.1))
