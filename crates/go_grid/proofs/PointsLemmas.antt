-- Sets of points: one that is chosen point by point, and the list of its points.
use Rattle.std.proofs.Common.{◌≡◌, ℕ, zero, suc, ◌+◌, ◌<◌, ◌≤◌, ◌⊎◌, ◌↔◌, inl, inr, arith, refl, sym, subst, cond, List, [], ◌∷◌, ◌++◌, Bool, true, false, below_more, length, get_or, replicate, ◌∙◌}
use Rattle.std.specs.List.{Contains, count_by}
use Rattle.std.specs.List.Sorted.{IsStrictlyIncreasing}
use Rattle.std.proofs.lemmas.Bool.{cases_Bool, cases_eq, cases_lt, both_ways}
use Rattle.std.proofs.lemmas.List.{get_or_past, get_or_append_left, get_or_push, get_or-replicate, get_or_default, length_push, length-replicate}
use Rattle.std.proofs.lemmas.List.Elements.{Contains-get_or, Contains-push, Contains-push_cases, Contains-append_left}
use Rattle.std.proofs.lemmas.List.Sums.{sum_by-cons}
use Rattle.go_grid.specs.Marks.{AreChosen, IsMarked, Marks, Lists}

-- no mark
pub none_marked : (n p : ℕ) → IsMarked (replicate n false) p → ⊥
none_marked n p m = elim (cases_lt p n) [
  | inl lt ↦ both_ways _ (get_or-replicate n p false false lt) m
  | inr le ↦ both_ways _ (get_or_past (replicate n false) p false (omega (arith, length-replicate n false))) m
]

pub no_mark : (ms : List Bool) → ((q : ℕ) → ¬ IsMarked ms q) → count_by (λ m. m) ms ≡ 0
no_mark [] none = refl
no_mark (true ∷ ms) none = absurd (none 0 refl)
no_mark (false ∷ ms) none = omega (arith, sum_by-cons (λ m. cond m 1 0) false ms, no_mark ms (λ q. none (suc q)))

pub chosen_start : (A : ℕ → Bool → Type 0) (marks : List Bool) → Marks marks (λ _. ⊥) → AreChosen 0 A marks
chosen_start A marks is = record { within = λ p m. absurd ((is p).0 m); each = λ p lt. absurd (omega arith) }

-- one point more, where the answer was true
pub chosen_next : (n : ℕ) (A : ℕ → Bool → Type 0) (old new : List Bool) (b : Bool) → AreChosen n A old → A n b
    → Marks new (λ q. IsMarked old q ⊎ ((b ≡ true) × (q ≡ n))) → AreChosen (n + 1) A new
chosen_next n A old new b s here is = record {
  within = λ p m. elim ((is p).0 m) as (λ _. p < n + 1) [ inl o ↦ omega (arith, s.within p o) | inr w ↦ omega (arith, w.1) ];
  each = below_more (λ p. (answer : Bool) × A p answer × ((answer ≡ true) ↔ IsMarked new p)) n
      (λ p lt. let w = s.each p lt in (
        w.0,
        w.1,
        (
          λ e. (is p).1 (inl (w.2.0 e)),
          λ m. elim ((is p).0 m) as (λ _. w.0 ≡ true) [ inl o ↦ w.2.1 o | inr k ↦ absurd (omega (arith, lt, k.1)) ],
        ),
      )) (
        b,
        here,
        (
          λ e. (is n).1 (inr (e, refl)),
          λ m. elim ((is n).0 m) as (λ _. b ≡ true) [ inl o ↦ absurd (omega (arith, s.within n o)) | inr k ↦ k.0 ],
        ),
      );
}

-- the points that were chosen, when each answer was right
pub chosen_are : (n : ℕ) (A : ℕ → Bool → Type 0) (P : ℕ → Type 0) (marks : List Bool) → AreChosen n A marks
    → ((p : ℕ) → P p → p < n) → ((p : ℕ) (b : Bool) → p < n → A p b → (b ≡ true) ↔ P p) → Marks marks P
chosen_are n A P marks s inside right p = (
  λ m. let w = s.each p (s.within p m) in (right p w.0 (s.within p m) w.1).0 (w.2.1 m),
  λ h. let w = s.each p (inside p h) in w.2.0 ((right p w.0 (inside p h) w.1).1 h),
)

-- a marked point is in the list of marks
pub marked_short : (marks : List Bool) (n p : ℕ) → length marks ≡ n → IsMarked marks p → p < n
marked_short marks n p e m = elim (cases_lt p (length marks)) as (λ _. p < n) [
  | inl lt ↦ omega arith
  | inr le ↦ absurd (both_ways _ (get_or_past marks p false le) m)
]

-- the list has exactly the points of `P` below `n`, in ascending order
pub record ListsBelow (points : List ℕ) (P : ℕ → Type 0) (n : ℕ) : Type 0 where
  pub ascending : IsStrictlyIncreasing points
  pub listed : (p : ℕ) → Contains points p → (p < n) × P p
  pub all : (p : ℕ) → p < n → P p → Contains points p

pub lists_skip : (points : List ℕ) (P : ℕ → Type 0) (n : ℕ) → ListsBelow points P n → ¬ P n → ListsBelow points P (n + 1)
lists_skip points P n s none = record {
  ascending = s.ascending;
  listed = λ p h. let w = s.listed p h in (omega arith, w.1);
  all = below_more (λ p. P p → Contains points p) n s.all (λ h. absurd (none h));
}

pub lists_push : (points : List ℕ) (P : ℕ → Type 0) (n : ℕ) → ListsBelow points P n → P n → ListsBelow (points ++ n ∷ []) P (n + 1)
lists_push points P n s here = record {
  ascending = λ k lt.
      let short : k < length points = omega (arith, length_push points n) in
      rw (get_or_append_left points (n ∷ []) 0 k short)
      (elim (cases_lt (k + 1) (length points)) [
        | inl in' ↦ rw (get_or_append_left points (n ∷ []) 0 (k + 1) in') (s.ascending k in')
        | inr out ↦
            let e : length points ≡ k + 1 = omega arith in
            rw (get_or_push points n 0 (k + 1) e)
            (s.listed (get_or points k 0) (Contains-get_or points k 0 short)).0
      ]);
  listed = λ p h. elim (Contains-push_cases points n p h) [
    | inl old ↦ let w = s.listed p old in (omega arith, w.1)
    | inr e ↦ (omega arith, subst P e here)
  ];
  all = below_more (λ p. P p → Contains (points ++ n ∷ []) p) n
      (λ p lt h. Contains-append_left points (n ∷ []) p (s.all p lt h)) (λ _. Contains-push points n);
}

-- each set has a list
listing : (marks : List Bool) (n : ℕ) → (points : List ℕ) × ListsBelow points (IsMarked marks) n
listing marks zero =
    ([], record { ascending = λ k lt. absurd (omega arith); listed = λ p h. absurd (omega (arith, h.1)); all = λ p lt. absurd (omega arith) })
listing marks (suc n) =
    let (points, s) = listing marks n in
    let next : n + 1 ≡ suc n = omega arith in
    elim (cases_Bool (get_or marks n false)) as (λ _. (points : List ℕ) × ListsBelow points (IsMarked marks) (suc n)) [
      | inl on ↦ (points ++ n ∷ [], subst (ListsBelow (points ++ n ∷ []) (IsMarked marks)) next (lists_push points (IsMarked marks) n s on))
      | inr off ↦ (points, subst (ListsBelow points (IsMarked marks)) next (lists_skip points (IsMarked marks) n s (both_ways _ off)))
    ]

pub some_list : (marks : List Bool) → (points : List ℕ) × ((p : ℕ) → Contains points p ↔ IsMarked marks p)
some_list marks =
    let (points, s) = listing marks (length marks) in
    (points, λ p. (λ h. (s.listed p h).1, λ m. s.all p (marked_short marks (length marks) p refl m) m))

pub lists_same : (points : List ℕ) (P Q : ℕ → Type 0) → Lists points P → ((p : ℕ) → P p ↔ Q p) → Lists points Q
lists_same points P Q s same = record {
  ascending = s.ascending;
  exact = λ p. (λ h. (same p).0 ((s.exact p).0 h), λ h. (s.exact p).1 ((same p).1 h));
}

-- an item of a list, by its place
pub item_is : (xs : List ℕ) (i x : ℕ) → i < length xs → x ≡ get_or xs i x → x ≡ get_or xs i 0
item_is xs i x lt e = e ∙ get_or_default xs i x 0 lt

-- what holds of the item at each place holds of each item
pub each_item : (P : ℕ → Type 0) (xs : List ℕ) (n : ℕ) → ((i : ℕ) → i < n → P (get_or xs i 0)) → length xs ≤ n
    → (q : ℕ) → Contains xs q → P q
each_item P xs n all le q h = subst P (get_or_default xs h.0 0 q h.1 ∙ h.2) (all h.0 (omega (arith, h.1, le)))

-- some step below `i` notes `k`
abbrev pub Noted : (ℕ → ℕ → Type 0) → ℕ → ℕ → Type 0
Noted Q i k = (j : ℕ) × (j < i) × Q j k

pub noted_start : (Q : ℕ → ℕ → Type 0) (marks : List Bool) → Marks marks (λ _. ⊥) → Marks marks (Noted Q 0)
noted_start Q marks e k = (λ m. absurd ((e k).0 m), λ h. absurd (omega (arith, h.1)))

pub noted_next : (Q : ℕ → ℕ → Type 0) (i : ℕ) (old new : List Bool) → Marks old (Noted Q i)
    → Marks new (λ k. IsMarked old k ⊎ Q i k) → Marks new (Noted Q (i + 1))
noted_next Q i old new is more k = (
  λ m. elim ((more k).0 m) as (λ _. Noted Q (i + 1) k) [
    | inl o ↦ let h = (is k).0 o in (h.0, omega (arith, h.1), h.2)
    | inr q ↦ (i, omega arith, q)
  ],
  λ h. (more k).1 (elim (cases_eq h.0 i) as (λ _. IsMarked old k ⊎ Q i k) [
    | inl e ↦ inr (subst (λ j. Q j k) e h.2)
    | inr ne ↦ inl ((is k).1 (h.0, omega (arith, h.1, ne), h.2))
  ]),
)

-- a step that notes nothing, and one that notes just `x`
pub noted_skip : (Q : ℕ → ℕ → Type 0) (i : ℕ) (marks : List Bool) → Marks marks (Noted Q i) → ((k : ℕ) → ¬ Q i k)
    → Marks marks (Noted Q (i + 1))
noted_skip Q i marks is none = noted_next Q i marks marks is (λ k. (
  inl,
  λ h. elim h as (λ _. IsMarked marks k) [ inl m ↦ m | inr q ↦ absurd (none k q) ],
))

pub noted_one : (Q : ℕ → ℕ → Type 0) (i x : ℕ) (old new : List Bool) → Marks old (Noted Q i) → Q i x
    → ((k : ℕ) → Q i k → k ≡ x) → Marks new (λ k. IsMarked old k ⊎ (k ≡ x)) → Marks new (Noted Q (i + 1))
noted_one Q i x old new is here only more = noted_next Q i old new is (λ k. (
  λ m. elim ((more k).0 m) as (λ _. IsMarked old k ⊎ Q i k) [ inl o ↦ inl o | inr e ↦ inr (subst (Q i) (sym e) here) ],
  λ h. (more k).1 (elim h as (λ _. IsMarked old k ⊎ (k ≡ x)) [ inl o ↦ inl o | inr q ↦ inr (only k q) ]),
))

-- the places of a list note its items
pub noted_items : (xs : List ℕ) (n : ℕ) (marks : List Bool) → Marks marks (Noted (λ i x. get_or xs i 0 ≡ x) n) → n ≤ length xs → length xs ≤ n
    → Marks marks (Contains xs)
noted_items xs n marks is le ge p = (
  λ m. let h = (is p).0 m in (h.0, omega (arith, h.1), get_or_default xs h.0 p 0 (omega (arith, h.1)) ∙ h.2),
  λ h. (is p).1 (h.0, omega (arith, h.1), get_or_default xs h.0 0 p h.1 ∙ h.2),
)
