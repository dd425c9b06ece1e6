-- Sets of options, as lists in which none stands twice.
use Rattle.std.proofs.Common.{ℕ, ◌≡◌, ◌<◌, ◌≤◌, inl, inr, List, [], ◌∷◌, ◌++◌, length, get_or, set, Contains, nat_eq, true, arith, sym, ap, subst, ◌∙◌, length-append}
use Rattle.std.specs.List.{IsDistinct}
use Rattle.std.specs.List.Sorted.{IsPermutation}
use Rattle.std.specs.Set.{is_member}
use Rattle.std.proofs.lemmas.Bool.{cases_Bool, cases_eq}
use Rattle.std.proofs.lemmas.Bool.Decides.{Decides-eqb}
use Rattle.std.proofs.lemmas.Cmp.{nat_eq_equiv}
use Rattle.std.proofs.lemmas.List.{get_or-set_same, get_or-set_other, get_or_default}
use Rattle.std.proofs.lemmas.List.Elements.{Contains-append_left, Contains-push, Contains-push_cases}
use Rattle.std.proofs.lemmas.List.Sorted.{Contains-permutation, IsPermutation-sym}
use Rattle.std.proofs.lemmas.Map.Keys.{IsDistinct-push, IsDistinct-IsPermutation}
use Rattle.std.proofs.lemmas.Map.Made.{is_member-Decides, length-le_from_is_member}
use Rattle.local_value.specs.inner.OptionSets.{HasNoRepeats, HaveSameMembers, IsWith, IsOptionSet}

-- Lists in which no option stands twice.

-- the empty list
pub once-none : HasNoRepeats []
unfolding IsDistinct
once-none = tt

-- one option more, which isn't in the list
pub once-push : (os : List ℕ) (o : ℕ) → HasNoRepeats os → (Contains os o → ⊥) → HasNoRepeats (os ++ o ∷ [])
once-push os o once new = elim (cases_Bool (is_member nat_eq os o)) [
  | inl t ↦ absurd (new ((is_member-Decides Decides-eqb os o).0 t))
  | inr f ↦ IsDistinct-push nat_eq_equiv os o once f
]

-- the list in another order
pub permuted-once : (os others : List ℕ) → IsPermutation os others → HasNoRepeats os → HasNoRepeats others
permuted-once os others p once = IsDistinct-IsPermutation nat_eq nat_eq_equiv.symm os others p once

pub permuted-same : (os others : List ℕ) → IsPermutation os others → HaveSameMembers os others
permuted-same os others p n = (Contains-permutation os others n p, Contains-permutation others os n (IsPermutation-sym os others p))

-- a list of as many members of a set, each once, has them all
pub same-members : (os others : List ℕ) → HasNoRepeats others → length others ≡ length os
    → ((k : ℕ) → k < length others → Contains os (get_or others k 0)) → HaveSameMembers os others
same-members os others once many each n = (there, among n)
  where
    among : (m : ℕ) → Contains others m → Contains os m
    among m (k, inside, at) = subst (Contains os) (get_or_default others k 0 m inside ∙ at) (each k inside)

    there : Contains os n → Contains others n
    there h = elim (cases_Bool (is_member nat_eq others n)) [
      | inl t ↦ (is_member-Decides Decides-eqb others n).0 t
      | inr f ↦
          let more = others ++ n ∷ [] in
          let all : (q : ℕ) → is_member nat_eq more q ≡ true → is_member nat_eq os q ≡ true = λ q t.
          (is_member-Decides Decides-eqb os q).1 (elim (Contains-push_cases others n q ((is_member-Decides Decides-eqb more q).0 t)) [
            | inl old ↦ among q old
            | inr e ↦ subst (Contains os) e h
          ]) in
          let few : length more ≤ length os = length-le_from_is_member nat_eq_equiv more os (IsDistinct-push nat_eq_equiv others n once f) all in
          absurd (omega (arith, few, length-append others (n ∷ []), many))
    ]

-- the members with one option more
pub with-push : (os : List ℕ) (o : ℕ) → IsWith o os (os ++ o ∷ [])
with-push os o n = (
  Contains-push_cases os o n,
  λ w. elim w [
    | inl i ↦ Contains-append_left os (o ∷ []) n i
    | inr e ↦ subst (Contains (os ++ o ∷ [])) e (Contains-push os o)
  ],
)

-- The marks of a set.

-- no options, where all marks are of earlier turns
pub set-none : (marks : List ℕ) (turn : ℕ) → 0 < turn → ((n : ℕ) → get_or marks n 0 < turn) → IsOptionSet [] marks turn
set-none marks turn begun past = record {
  begun = begun;
  once = once-none;
  past = λ o. omega (arith, past o);
  marked = λ o. (λ h. absurd (omega (arith, h.1)), λ e. absurd (omega (arith, e, past o)));
}

-- one option more, with its mark, where there may be more marks, of no turn
pub set-add : {os marks : List ℕ} {turn : ℕ} → IsOptionSet os marks turn → (marks' : List ℕ) → ((n : ℕ) → get_or marks' n 0 ≡ get_or marks n 0)
    → (o : ℕ) → o < length marks' → (Contains os o → ⊥) → IsOptionSet (os ++ o ∷ []) (set marks' o turn) turn
set-add {os} {marks} {turn} w marks' same o inside new = record {
  begun = w.begun;
  once = once-push os o w.once new;
  past = λ n. (elim (cases_eq n o) [
    | inl e ↦ (let m = here n e in omega (arith, m))
    | inr ne ↦ (let m = there n ne in omega (arith, m, w.past n))
  ]);
  marked = λ n. (
    λ h. (elim (Contains-push_cases os o n h) [
      | inl old ↦ (elim (cases_eq n o) [ inl e ↦ here n e | inr ne ↦ there n ne ∙ (w.marked n).0 old ])
      | inr e ↦ here n (sym e)
    ]),
    λ m. (elim (cases_eq n o) [
      | inl e ↦ subst (Contains (os ++ o ∷ [])) (sym e) (Contains-push os o)
      | inr ne ↦ Contains-append_left os (o ∷ []) n ((w.marked n).1 (sym (there n ne) ∙ m))
    ]),
  );
}
  where
    here : (n : ℕ) → n ≡ o → get_or (set marks' o turn) n 0 ≡ turn
    here n e = ap (λ k. get_or (set marks' o turn) k 0) e ∙ get_or-set_same marks' o turn 0 inside

    there : (n : ℕ) → (n ≡ o → ⊥) → get_or (set marks' o turn) n 0 ≡ get_or marks n 0
    there n ne = get_or-set_other marks' o n turn 0 ne ∙ same n
