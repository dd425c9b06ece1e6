-- A table of the places of positions.
use Rattle.std.proofs.Common.{◌≡◌, ◌≢◌, ℕ, ◌+◌, ◌<◌, ◌≤◌, inl, inr, suc, zero, arith, refl, sym, ap, ◌∙◌, List, [], ◌∷◌, ◌++◌, length, get_or, set, subst, replicate, Some, None, Option, IfSome, nat_eq, eqb-true, length-set, if◌then◌else◌}
use Rattle.std.specs.List.{AllPairs, Contains, list_any, position}
use Rattle.indexmap.specs.IndexSet.{insert_key}
use Rattle.std.proofs.lemmas.Bool.{cases_eq, false_from_ne_true}
use Rattle.std.proofs.lemmas.List.{get_or_default, get_or_append_left, length_push, get_or-set_same, get_or-set_other}
use Rattle.std.proofs.lemmas.List.Elements.{Contains-get_or, Contains-push_cases}
use Rattle.std.proofs.lemmas.List.Quantifiers.{position-Some}
use Rattle.std.proofs.lemmas.Map.Views.{Contains-from_any}
use Rattle.local_graph.specs.declared.place_table.PlaceTable.{PlaceTable}
use Rattle.local_graph.specs.inner.PlaceTable.{threes, IsNumbered, AreEntered, HasFew, HasSlots, IsPlaceTable}
use Rattle.local_graph.proofs.FiniteLemmas.{ternary_small}
use Rattle.local_graph.proofs.FoundLemmas.{once_grows}
use Rattle.local_graph.proofs.ThreesLemmas.{threes_is, same_threes}

-- where each number has a slot, a position's has one
pub slot_inside : (n slots numbers : ℕ) → numbers ≤ slots → IsNumbered numbers n → threes n < slots
slot_inside n slots numbers le (cells, few, most, is) =
    let small = ternary_small cells in
    omega (arith, ap threes is, threes_is cells few, small, most, le)

-- positions with one number are the same
same_position : (m n numbers : ℕ) → IsNumbered numbers m → IsNumbered numbers n → threes m ≡ threes n → m ≡ n
same_position m n numbers (a, few, most, is) (b, few', most', is') e =
    is ∙ same_threes a b (sym (threes_is a few) ∙ sym (ap threes is) ∙ e ∙ ap threes is' ∙ threes_is b few') ∙ sym is'

-- where each position has one of the numbers, so has the one at a place
pub numbered_at : (positions : List ℕ) (numbers : ℕ) → ((n : ℕ) → Contains positions n → IsNumbered numbers n)
    → (i : ℕ) → i < length positions → IsNumbered numbers (get_or positions i 0)
numbered_at positions numbers are i lt = are (get_or positions i 0) (Contains-get_or positions i 0 lt)

pub none_numbered : (positions : List ℕ) (numbers : ℕ) → positions ≡ [] → (n : ℕ) → Contains positions n → IsNumbered numbers n
none_numbered positions numbers none n (k, lt, at) = absurd (let e = ap length none in omega (arith, lt, e))

pub numbered_pushed : (positions after : List ℕ) (numbers position : ℕ) → ((n : ℕ) → Contains positions n → IsNumbered numbers n)
    → IsNumbered numbers position → after ≡ positions ++ position ∷ [] → (n : ℕ) → Contains after n → IsNumbered numbers n
numbered_pushed positions after numbers position are one e n h = elim (Contains-push_cases positions position n (subst (λ l. Contains l n) e h)) [
  | inl old ↦ are n old
  | inr same ↦ subst (IsNumbered numbers) same one
]

-- two places have different numbers
numbers_apart : (positions : List ℕ) (numbers i k : ℕ) → ((n : ℕ) → Contains positions n → IsNumbered numbers n) → AllPairs (λ a b. a ≢ b) positions
    → i < k → k < length positions → threes (get_or positions i 0) ≡ threes (get_or positions k 0) → ⊥
numbers_apart positions numbers i k are once less inside e =
    once i k 0 less inside
    (same_position (get_or positions i 0) (get_or positions k 0) numbers (numbered_at positions numbers are i (omega (arith, less, inside)))
    (numbered_at positions numbers are k inside) e)

-- no position is entered
pub none_entered : (positions slots : List ℕ) (count : ℕ) → slots ≡ replicate count 0 → AreEntered positions slots 0
none_entered positions slots count es = rw es record {
  each = λ i lt. absurd (omega arith);
  own = λ number place e. absurd (let n = zeros number count in omega (arith, n, e));
}
  where
    none : ℕ → List ℕ
    none n = replicate n 0

    zeros : (i n : ℕ) → get_or (none n) i 0 ≡ 0
    zeros i zero = refl
    zeros zero (suc n) = refl
    zeros (suc i) (suc n) = zeros i n

-- one more position is entered
pub entered_more : (positions slots slots' : List ℕ) (numbers k : ℕ) → AreEntered positions slots k → k < length positions
    → ((n : ℕ) → Contains positions n → IsNumbered numbers n) → AllPairs (λ a b. a ≢ b) positions → numbers ≤ length slots
    → slots' ≡ set slots (threes (get_or positions k 0)) (k + 1) → AreEntered positions slots' (k + 1)
entered_more positions slots slots' numbers k s more are once enough is = rw is record {
  each = λ i lt. elim (cases_eq i k) [
    | inl e ↦ ap (λ j. get_or now (threes (get_or positions j 0)) 0) e ∙ at_slot ∙ omega (arith, e)
    | inr ne ↦
        let before : i < k = omega (arith, lt, ne) in
        let other : threes (get_or positions i 0) ≢ slot = numbers_apart positions numbers i k are once before more in
        let kept : get_or now (threes (get_or positions i 0)) 0 ≡ get_or slots (threes (get_or positions i 0)) 0 = rw get_or-set_other refl in kept ∙ s.each i before
  ];
  own = λ number place e. elim (cases_eq number slot) [
    | inl same ↦
        let last : place ≡ k = omega (arith, e, ap (λ n. get_or now n 0) same, at_slot) in
        (omega (arith, last), ap (λ j. threes (get_or positions j 0)) last ∙ sym same)
    | inr ne ↦
        let kept : get_or now number 0 ≡ get_or slots number 0 = rw get_or-set_other refl in
        let was = s.own number place (sym kept ∙ e) in
        (omega (arith, was.0), was.1)
  ];
}
  where
    slot : ℕ
    slot = threes (get_or positions k 0)

    now : List ℕ
    now = set slots slot (k + 1)

    at_slot : get_or now slot 0 ≡ k + 1
    at_slot = get_or-set_same slots slot (k + 1) 0 (slot_inside (get_or positions k 0) (length slots) numbers enough (numbered_at positions numbers are k more))

-- what stands in a position's slot is its place
pub slot_place : (positions slots : List ℕ) (numbers position number link place : ℕ) → AreEntered positions slots (length positions)
    → ((n : ℕ) → Contains positions n → IsNumbered numbers n) → IsNumbered numbers position → number ≡ threes position → link ≡ get_or slots number 0
    → link ≡ suc place → (place < length positions) × (get_or positions place 0 ≡ position)
slot_place positions slots numbers position number link place s are one is at e =
    let its = s.own number place (sym at ∙ e) in (
      its.0,
      same_position (get_or positions place 0) position numbers (numbered_at positions numbers are place its.0) one (its.1 ∙ is),
    )

-- and where nothing stands there, the position wasn't found
pub slot_none : (positions slots : List ℕ) (position number link : ℕ) → AreEntered positions slots (length positions) → number ≡ threes position
    → link ≡ get_or slots number 0 → link ≡ 0 → ¬ Contains positions position
slot_none positions slots position number link s is at none (i, lt, e) =
    let there : get_or positions i 0 ≡ position = get_or_default positions i 0 position lt ∙ e in
    let its : get_or slots number 0 ≡ suc i = ap (λ n. get_or slots n 0) (is ∙ sym (ap threes there)) ∙ s.each i lt in
    omega (arith, its, at, none)

-- what the set finds is the place
pub found_in_set : (keys positions : List ℕ) (x : ℕ) (r : Option ℕ) → r ≡ position (nat_eq x) keys → keys ≡ positions
    → IfSome r (λ place. (place < length positions) × (get_or positions place 0 ≡ x))
found_in_set keys positions x None e same = tt
found_in_set keys positions x (Some i) e same =
    let p = position-Some (nat_eq x) keys i 0 (sym e) in
    (subst (λ l. i < length l) same p.0, ap (λ l. get_or l i 0) (sym same) ∙ sym (eqb-true x (get_or keys i 0) p.1))

-- a key that is new goes behind the others
pub key_behind : (keys positions : List ℕ) (x : ℕ) → keys ≡ positions → ¬ Contains positions x → insert_key nat_eq keys x ≡ positions ++ x ∷ []
key_behind keys positions x same new = rw same
    (ap (λ b. if b then positions else (positions ++ x ∷ []))
    (false_from_ne_true (list_any (nat_eq x) positions) (λ found. new (Contains-from_any eqb-true x positions found))))

-- what is entered is so also with one position more behind
entered_behind : (positions slots : List ℕ) (x : ℕ) → AreEntered positions slots (length positions) → AreEntered (positions ++ x ∷ []) slots (length positions)
entered_behind positions slots x s = record {
  each = λ i lt. ap (λ n. get_or slots (threes n) 0) (get_or_append_left positions (x ∷ []) 0 i lt) ∙ s.each i lt;
  own = λ number place e.
      let was = s.own number place e in
      (was.0, ap threes (get_or_append_left positions (x ∷ []) 0 place was.0) ∙ was.1);
}

-- one position more
module _ (t t' : PlaceTable) (x : ℕ) (before : IsPlaceTable t) (new : ¬ Contains t.positions.items x) (one : IsNumbered t.numbers x)
    (pushed : t'.positions.items ≡ t.positions.items ++ x ∷ []) (numbers : t'.numbers ≡ t.numbers) where
  are : (n : ℕ) → Contains t'.positions.items n → IsNumbered t.numbers n
  are = numbered_pushed t.positions.items t'.positions.items t.numbers x before.numbered one pushed

  once : AllPairs (λ a b. a ≢ b) t'.positions.items
  once = once_grows t.positions.items t'.positions.items x before.once (inr (pushed, new))

  pub more_in_set : HasFew t → t'.slots.items ≡ t.slots.items → t'.few.keys ≡ insert_key nat_eq t.few.keys x → IsPlaceTable t'
  more_in_set few slots keys = record {
    numbered = subst (λ k. (n : ℕ) → Contains t'.positions.items n → IsNumbered k n) (sym numbers) are;
    any = omega (arith, before.any, numbers);
    once = once;
    found = inl record {
      none = slots ∙ few.none;
      keys = keys ∙ key_behind t.few.keys t.positions.items x few.keys new ∙ sym pushed;
    };
  }

  pub more_in_slots : HasSlots t
      → t'.slots.items ≡ set t.slots.items (threes (get_or t'.positions.items (length t.positions.items) 0)) (length t.positions.items + 1) → IsPlaceTable t'
  more_in_slots has slots =
      let long : length t'.positions.items ≡ length t.positions.items + 1 = ap length pushed ∙ length_push t.positions.items x in
      let was = subst (λ l. AreEntered l t.slots.items (length t.positions.items)) (sym pushed) (entered_behind t.positions.items t.slots.items x has.entered) in
      record {
        numbered = subst (λ k. (n : ℕ) → Contains t'.positions.items n → IsNumbered k n) (sym numbers) are;
        any = omega (arith, before.any, numbers);
        once = once;
        found = inr record {
          enough = omega (
            arith,
            has.enough,
            numbers,
            ap length slots,
            length-set t.slots.items (threes (get_or t'.positions.items (length t.positions.items) 0)) (length t.positions.items + 1),
          );
          entered = subst (AreEntered t'.positions.items t'.slots.items) (sym long)
              (entered_more t'.positions.items t.slots.items t'.slots.items t.numbers (length t.positions.items) was (omega (arith, long)) are once has.enough slots);
        };
      }
