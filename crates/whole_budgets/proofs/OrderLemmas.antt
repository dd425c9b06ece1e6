-- Lists of numbers in the order of dictionaries: there is no endless way down.
use Rattle.std.proofs.Common.{ℕ, zero, suc, ◌≡◌, ◌<◌, ◌≤◌, ◌⊎◌, inl, inr, refl, sym, ap, ◌∙◌, subst, arith, List, [], ◌∷◌, length, get_or}
use Rattle.std.proofs.lemmas.Bool.{cases_eq}

-- the first list stands before the second
abbrev pub Below : List ℕ → List ℕ → Type 0
Below (y ∷ ys) (x ∷ xs) = (y < x) ⊎ ((y ≡ x) × Below ys xs)
Below _ _ = ⊥

-- what holds of a list of a length where it holds of all of that length before it
abbrev pub Steps : ℕ → (List ℕ → Type 0) → Type 0
Steps k P = (xs : List ℕ) → length xs ≡ k → ((ys : List ℕ) → length ys ≡ k → Below ys xs → P ys) → P xs

-- what stands before a list has a lower first number, or the same one, and then lower others
by_head : (k : ℕ) (P : List ℕ → Type 0) (n x : ℕ) → x < suc n → ((y : ℕ) → y < n → (ys : List ℕ) → length ys ≡ k → P (y ∷ ys)) → (zs : List ℕ)
    → ((ys : List ℕ) → length ys ≡ k → Below ys zs → P (x ∷ ys)) → (ys : List ℕ) → length ys ≡ suc k → Below ys (x ∷ zs) → P ys
by_head k P n x lt lower zs before [] long below = absurd below
by_head k P n x lt lower zs before (y ∷ ys) long (inl less) = lower y (omega (arith, less, lt)) ys (omega (arith, long))
by_head k P n x lt lower zs before (y ∷ ys) long (inr (same, below)) = subst (λ z. P (z ∷ ys)) (sym same) (before ys (omega (arith, long)) below)

-- by induction on the first number, where induction on the others is given
by_first : (k : ℕ) (P : List ℕ → Type 0) → Steps (suc k) P → ((Q : List ℕ → Type 0) → Steps k Q → (xs : List ℕ) → length xs ≡ k → Q xs)
    → (n x : ℕ) → x < n → (xs : List ℕ) → length xs ≡ k → P (x ∷ xs)
by_first k P step others zero x lt = absurd (omega (arith, lt))
by_first k P step others (suc n) x lt = others (λ zs. P (x ∷ zs))
    (λ zs long before. step (x ∷ zs) (ap suc long) (by_head k P n x lt (by_first k P step others n) zs before))

-- then it holds of all of that length
pub by_order : (k : ℕ) (P : List ℕ → Type 0) → Steps k P → (xs : List ℕ) → length xs ≡ k → P xs
by_order zero P step [] long = step [] long (λ ys many below. none ys below)
  where
    none : (ys : List ℕ) → Below ys [] → P ys
    none [] below = absurd below
    none (y ∷ ys) below = absurd below
by_order zero P step (x ∷ xs) long = absurd (omega (arith, long))
by_order (suc k) P step [] long = absurd (omega (arith, long))
by_order (suc k) P step (x ∷ xs) long = by_first k P step (by_order k) (suc x) x (omega arith) xs (omega (arith, long))

-- the lists have the same numbers at so many first places
abbrev pub Agree : ℕ → List ℕ → List ℕ → Type 0
Agree k xs ys = (i : ℕ) → i < k → get_or xs i 0 ≡ get_or ys i 0

-- at one of so many first places the first list has less, and at those before it the same
abbrev pub IsLessWithin : ℕ → List ℕ → List ℕ → Type 0
IsLessWithin k xs ys = (j : ℕ) × (j < k) × Agree j xs ys × (get_or xs j 0 < get_or ys j 0)

pub below_at : (xs ys : List ℕ) → length xs ≡ length ys → (j : ℕ) → j < length xs → Agree j xs ys → get_or xs j 0 < get_or ys j 0 → Below xs ys
below_at [] ys long j lt agree less = absurd (omega (arith, lt))
below_at (x ∷ xs) [] long j lt agree less = absurd (omega (arith, long))
below_at (x ∷ xs) (y ∷ ys) long zero lt agree less = inl less
below_at (x ∷ xs) (y ∷ ys) long (suc j) lt agree less =
    inr (agree 0 (omega arith), below_at xs ys (omega (arith, long)) j (omega (arith, lt)) (λ i le. agree (suc i) (omega (arith, le))) less)

-- a list that has no more at any place is the same or stands before
pub same_or_below : (xs ys : List ℕ) → length xs ≡ length ys → ((k : ℕ) → get_or xs k 0 ≤ get_or ys k 0) → (xs ≡ ys) ⊎ Below xs ys
same_or_below [] [] long less = inl refl
same_or_below [] (y ∷ ys) long less = absurd (omega (arith, long))
same_or_below (x ∷ xs) [] long less = absurd (omega (arith, long))
same_or_below (x ∷ xs) (y ∷ ys) long less = elim (cases_eq x y) as (λ _. ((x ∷ xs) ≡ (y ∷ ys)) ⊎ Below (x ∷ xs) (y ∷ ys)) [
  | inl e ↦ elim (same_or_below xs ys (omega (arith, long)) (λ k. less (suc k))) as (λ _. ((x ∷ xs) ≡ (y ∷ ys)) ⊎ Below (x ∷ xs) (y ∷ ys)) [
    | inl same ↦ inl (λ i. e i ∷ same i)
    | inr below ↦ inr (inr (e, below))
  ]
  | inr ne ↦ inr (inl (omega (arith, ne, less 0)))
]

pub below_below : (xs ys zs : List ℕ) → Below xs ys → Below ys zs → Below xs zs
below_below [] ys zs a b = absurd a
below_below (x ∷ xs) [] zs a b = absurd a
below_below (x ∷ xs) (y ∷ ys) [] a b = absurd b
below_below (x ∷ xs) (y ∷ ys) (z ∷ zs) (inl a) (inl b) = inl (omega (arith, a, b))
below_below (x ∷ xs) (y ∷ ys) (z ∷ zs) (inl a) (inr (e, b)) = inl (omega (arith, a, e))
below_below (x ∷ xs) (y ∷ ys) (z ∷ zs) (inr (e, a)) (inl b) = inl (omega (arith, e, b))
below_below (x ∷ xs) (y ∷ ys) (z ∷ zs) (inr (e, a)) (inr (f, b)) = inr (e ∙ f, below_below xs ys zs a b)
