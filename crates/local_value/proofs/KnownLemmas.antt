-- What is remembered, as the tables grow.
use Rattle.std.proofs.Common.{◌≡◌, ℤ, ℕ, ◌+◌, ◌-◌, ◌<◌, ◌≤◌, inl, inr, arith, refl, sym, ap, ap₂, ◌∙◌, subst, List, [], ◌∷◌, ◌++◌, length, map, take, drop, get_or, length-drop, length-append}
use Rattle.std.specs.Prelude.{slice_range, Contains, All}
use Rattle.std.proofs.lemmas.List.{take_all, take-append-le, drop-append-le, drop_at, map_push, get_or-map, length-map}
use Rattle.std.proofs.lemmas.List.Elements.{All-head, All-push, All-tail, Contains-push_cases}
use Rattle.short_games.specs.Tree.{Tree}
use Rattle.local_value.specs.declared.form_table.KnownForm.{KnownForm}
use Rattle.local_value.specs.declared.memo.Memo.{Memo}
use Rattle.local_value.specs.Remembered.{IsRememberedRight}
use Rattle.local_value.specs.inner.Memo.{IsMemoRight, remembered}
use Rattle.local_value.specs.inner.OptionSets.{HasNoRepeats}
use Rattle.local_value.specs.inner.Tables.{known_form, known_sum, AreListedOnce, IsFormTable, Learns}
use Rattle.local_value.specs.declared.sum_table.KnownSum.{KnownSum}

abbrev pub AreInside : ℕ → List KnownForm → Type 0
AreInside count forms = All (λ f. (f.start ≤ f.end) × (f.end ≤ count)) forms

-- the forms stay with more options behind
forms_kept : (pool more : List ℕ) (forms : List KnownForm) → AreInside (length pool) forms
    → map (known_form (pool ++ more)) forms ≡ map (known_form pool) forms
forms_kept pool more [] inside = refl
forms_kept pool more (f ∷ fs) inside =
    let here = All-head (λ f. (f.start ≤ f.end) × (f.end ≤ length pool)) f fs inside in
    let size : length (drop f.start pool) ≡ length pool - f.start = length-drop f.start pool in
    let list : slice_range (pool ++ more) f.start f.end ≡ slice_range pool f.start f.end =
    ap (take (f.end - f.start)) (drop-append-le f.start pool more (omega (arith, here.0, here.1)))
    ∙ take-append-le (f.end - f.start) (drop f.start pool) more (omega (arith, here.0, here.1)) in
    ap₂ (λ l ls. (l, f.id) ∷ ls) list
    (forms_kept pool more fs (All-tail (λ f. (f.start ≤ f.end) × (f.end ≤ length pool)) f fs inside))

module _ (pool options pool' : List ℕ) (forms forms' : List KnownForm) (before : List (List ℕ × ℕ))
    (inside : AreInside (length pool) forms) (grown : pool' ≡ pool ++ options) (is : map (known_form pool) forms ≡ before) where
  same : map (known_form pool') forms ≡ before
  same = ap (λ p. map (known_form p) forms) grown ∙ forms_kept pool options forms inside ∙ is

  -- options alone are no form
  pub learns_none : (one : List ℕ × ℕ) → forms' ≡ forms → Learns before one (map (known_form pool') forms')
  learns_none one none x h = inl (subst (λ l. Contains l x) (ap (map (known_form pool')) none ∙ same) h)

  -- one more form
  pub learns_one : (f : KnownForm) → forms' ≡ forms ++ f ∷ [] → f.start ≡ length pool → f.end ≡ length pool'
      → Learns before (options, f.id) (map (known_form pool') forms')
  learns_one f one from to x h =
      let count : f.end - f.start ≡ length options = omega (arith, from, to, ap length grown, length-append pool options) in
      let list : slice_range pool' f.start f.end ≡ options =
      ap (λ p. slice_range p f.start f.end) grown ∙ ap (take (f.end - f.start)) (drop_at pool options f.start (sym from))
      ∙ take_all (f.end - f.start) options (omega (arith, count)) in
      let all : map (known_form pool') forms' ≡ before ++ (options, f.id) ∷ [] =
      ap (map (known_form pool')) one ∙ map_push (known_form pool') forms f ∙ ap₂ (λ ls l. ls ++ (l, f.id) ∷ []) same list in
      Contains-push_cases before (options, f.id) x (subst (λ l. Contains l x) all h)

-- no list has repeats where one without is learned
once_learned : (before now : List (List ℕ × ℕ)) (options : List ℕ) (id : ℕ) → Learns before (options, id) now → HasNoRepeats options
    → AreListedOnce before → AreListedOnce now
once_learned before now options id learns once old os i h = elim (learns (os, i) h) [
  | inl x ↦ old os i x
  | inr e ↦ subst (λ (k : List ℕ × ℕ). HasNoRepeats k.0) e once
]

-- the table as it grows
module _ (pool options pool' : List ℕ) (forms forms' : List KnownForm) (places places' : ℕ) (w : IsFormTable places forms pool)
    (grown : pool' ≡ pool ++ options) (once : HasNoRepeats options) where
  further : AreInside (length pool') forms
  further k d lt = (let (a, b) = w.within k d lt in (a, omega (arith, b, ap length grown, length-append pool options)))

  -- by options alone
  pub table_none : places' ≡ places → forms' ≡ forms → IsFormTable places' forms' pool'
  table_none same none = record {
    count = same ∙ w.count ∙ sym (ap length none);
    within = subst (AreInside (length pool')) (sym none) further;
    once = once_learned (map (known_form pool) forms) (map (known_form pool') forms') options 0
        (learns_none pool options pool' forms forms' (map (known_form pool) forms) w.within grown refl (options, 0) none) once w.once;
  }

  -- by one form
  pub table_one : places' ≡ places + 1 → (f : KnownForm) → forms' ≡ forms ++ f ∷ [] → f.start ≡ length pool → f.end ≡ length pool'
      → IsFormTable places' forms' pool'
  table_one more f one from to = record {
    count = omega (arith, more, w.count, ap length one, length-append forms (f ∷ []));
    within = subst (AreInside (length pool')) (sym one) (All-push (λ g. (g.start ≤ g.end) × (g.end ≤ length pool')) forms f further
        (omega (arith, from, to, ap length grown, length-append pool options), omega (arith, to)));
    once = once_learned (map (known_form pool) forms) (map (known_form pool') forms') options f.id
        (learns_one pool options pool' forms forms' (map (known_form pool) forms) w.within grown refl f one from to) once w.once;
  }

-- the form at a place, where its options are these
pub form_found : (pool options : List ℕ) (forms : List KnownForm) (before : List (List ℕ × ℕ)) (place : ℕ) (f : KnownForm)
    → map (known_form pool) forms ≡ before → place < length forms → f ≡ get_or forms place f → slice_range pool f.start f.end ≡ options
    → Contains before (options, f.id)
form_found pool options forms before place f is inside at list = subst (λ l. Contains l (options, f.id)) is (
  place,
  omega (arith, length-map forms (known_form pool), inside),
  get_or-map (known_form pool) forms place f (options, f.id) inside ∙ ap (known_form pool) (sym at) ∙ ap (λ l. (l, f.id)) list,
)

-- the sum at a place, where its game and its stones are these
pub sum_found : (sums : List KnownSum) (before : List ((ℕ × ℤ) × ℕ)) (place game : ℕ) (stones : ℤ) (s : KnownSum)
    → map known_sum sums ≡ before → place < length sums → s ≡ get_or sums place s → s.game ≡ game → s.stones ≡ stones
    → Contains before ((game, stones), s.sum)
sum_found sums before place game stones s is inside at g n = subst (λ l. Contains l ((game, stones), s.sum)) is (
  place,
  omega (arith, length-map sums known_sum, inside),
  get_or-map known_sum sums place s ((game, stones), s.sum) inside ∙ ap known_sum (sym at) ∙ ap₂ (λ x y. ((x, y), s.sum)) g n,
)

-- what is remembered is right, as callers see it
pub remembered-right : {Ts : List Tree} {limit : ℕ} {memo : Memo} → IsMemoRight Ts limit memo → IsRememberedRight Ts limit (remembered memo)
remembered-right right = record { sums = right.sums; forms = right.forms.known; comparisons = right.forms.comparisons }

-- what callers see is right, and so is all that is remembered
pub memo-right : {Ts : List Tree} {limit : ℕ} {memo : Memo} → IsRememberedRight Ts limit (remembered memo) → IsMemoRight Ts limit memo
memo-right right = record { sums = right.sums; forms = record { known = right.forms; comparisons = right.comparisons } }
