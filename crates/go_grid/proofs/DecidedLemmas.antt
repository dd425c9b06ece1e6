-- What can be decided: conditions on numbers below a bound, and paths over such places.
use Rattle.std.proofs.Common.{◌≡◌, ℕ, zero, suc, ◌<◌, ◌⊎◌, inl, inr, refl, subst, arith}
use Rattle.std.proofs.lemmas.Bool.{cases_eq}
use Rattle.go_grid.specs.Path.{HasPath}
use Rattle.go_grid.proofs.PathLemmas.{carried, leads_here, leads_join, leads_start, leads_step}

abbrev pub Decided : Type 0 → Type 0
Decided P = P ⊎ ¬ P

pub both : (P Q : Type 0) → Decided P → Decided Q → Decided (P × Q)
both P Q (inl p) (inl q) = inl (p, q)
both P Q (inl p) (inr f) = inr (λ w. f w.1)
both P Q (inr f) d = inr (λ w. f w.0)

pub either : (P Q : Type 0) → Decided P → Decided Q → Decided (P ⊎ Q)
either P Q (inl p) d = inl (inl p)
either P Q (inr f) (inl q) = inl (inr q)
either P Q (inr f) (inr g) = inr (λ w. elim w [ inl p ↦ f p | inr q ↦ g q ])

pub denied : (P : Type 0) → Decided P → Decided (¬ P)
denied P (inl p) = inr (λ f. f p)
denied P (inr f) = inl f

pub alike : (P Q : Type 0) → (P → Q) → (Q → P) → Decided P → Decided Q
alike P Q to from (inl p) = inl (to p)
alike P Q to from (inr f) = inr (λ q. f (from q))

pub some_below : (n : ℕ) (P : ℕ → Type 0) → ((k : ℕ) → Decided (P k)) → Decided ((k : ℕ) × (k < n) × P k)
some_below zero P d = inr (λ (k, lt, p). absurd (omega (arith, lt)))
some_below (suc n) P d = elim (d n) [
  | inl p ↦ inl (n, omega arith, p)
  | inr f ↦ elim (some_below n P d) [
    | inl (k, lt, p) ↦ inl (k, omega (arith, lt), p)
    | inr g ↦ inr (λ (k, lt, p). elim (cases_eq k n) [
      | inl e ↦ f (subst P e p)
      | inr ne ↦ g (k, omega (arith, lt, ne), p)
    ])
  ]
]

module _ (Next : ℕ → ℕ → Type 0) (In : ℕ → Type 0) where
  -- a path between two places all of whose places between are below m (Warshall)
  abbrev Through : ℕ → ℕ → ℕ → Type 0
  Through zero i j = (In i × In j) × ((i ≡ j) ⊎ Next i j)
  Through (suc m) i j = Through m i j ⊎ (Through m i m × Through m m j)

  through_or_not : ((i j : ℕ) → Decided (Next i j)) → ((i : ℕ) → Decided (In i)) → (m i j : ℕ) → Decided (Through m i j)
  through_or_not next in' zero i j = both _ _ (both _ _ (in' i) (in' j)) (either _ _ (cases_eq i j) (next i j))
  through_or_not next in' (suc m) i j =
      either _ _ (through_or_not next in' m i j) (both _ _ (through_or_not next in' m i m) (through_or_not next in' m m j))

  leads_through : (m i j : ℕ) → Through m i j → HasPath Next In i j
  leads_through zero i j ((hi, hj), inl e) = subst (HasPath Next In i) e (leads_here Next In i hi)
  leads_through zero i j ((hi, hj), inr next) = leads_step Next In i i j (leads_here Next In i hi) next hj
  leads_through (suc m) i j (inl t) = leads_through m i j t
  leads_through (suc m) i j (inr (a, b)) = leads_join Next In i m j (leads_through m i m a) (leads_through m m j b)

  raised : (m i j : ℕ) → Through 0 i j → Through m i j
  raised zero i j t = t
  raised (suc m) i j t = inl (raised m i j t)

  joined : (m k i j : ℕ) → k < m → Through m i k → Through m k j → Through m i j
  joined zero k i j lt a b = absurd (omega (arith, lt))
  joined (suc m) k i j lt a b = elim (cases_eq k m) [
    | inl e ↦ inr (into m i (subst (Through (suc m) i) e a), out m j (subst (λ z. Through (suc m) z j) e b))
    | inr ne ↦ earlier m k i j (λ x y. joined m k x y (omega (arith, lt, ne))) a b
  ]
    where
      into : (m i : ℕ) → Through (suc m) i m → Through m i m
      into m i (inl t) = t
      into m i (inr (t, u)) = t

      out : (m j : ℕ) → Through (suc m) m j → Through m m j
      out m j (inl t) = t
      out m j (inr (t, u)) = u

      earlier : (m k i j : ℕ) → ((x y : ℕ) → Through m x k → Through m k y → Through m x y) → Through (suc m) i k → Through (suc m) k j
          → Through (suc m) i j
      earlier m k i j join (inl a) (inl b) = inl (join i j a b)
      earlier m k i j join (inl a) (inr (b, c)) = inr (join i m a b, c)
      earlier m k i j join (inr (a, b)) (inl c) = inr (a, join m j b c)
      earlier m k i j join (inr (a, b)) (inr (c, d)) = inr (a, d)

  -- whether a path over places below n leads from one to the other
  pub leads_or_not : (n : ℕ) → ((i : ℕ) → In i → i < n) → ((i j : ℕ) → Decided (Next i j)) → ((i : ℕ) → Decided (In i)) → (i j : ℕ)
      → Decided (HasPath Next In i j)
  leads_or_not n below next in' i j =
      alike (Through n i j) (HasPath Next In i j) (leads_through n i j) (λ path.
      let start = leads_start Next In i j path in
      (carried Next In (λ x. In x × Through n i x)
      (λ x y (hx, t) step hy. (hy, joined n x i y (below x hx) t (raised n x y ((hx, hy), inr step)))) i j
      (start, raised n i i ((start, start), inl refl)) path).1) (through_or_not next in' n i j)
