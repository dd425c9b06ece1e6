use Rattle.std.proofs.Common.{arith, refl, [], ◌∷◌, ◌++◌, sym, ◌∙◌, ap, ap₂, length, nat_eq, ℕ, List, Result, Ok, Err}
use Rattle.std.proofs.lemmas.Int.{ints}
use Rattle.std.specs.HashMap.{get}
use Rattle.std.specs.Result.{OnErr}
use Rattle.game_store.specs.inner.Meaning.{values}
use Rattle.game_store.specs.inner.Chain.{entries_of}
use Rattle.game_store.specs.Meaning.{form}
use Rattle.game_store.specs.Meaning.Wanted.{options}
use Rattle.game_store.proofs.EntryLaws.{extends-push, extends-same, last-value, MayKeep}
use Rattle.game_store.proofs.StoreLaws.{floor-small, found, Holds, holds, holds-map, holds-options, ids-below, length-trees, options-placed}
use Rattle.game_store.proofs.Store.intern.Goals as goal

pub returns-in-Some-clause-value : goal.returns-in-Some-clause-value
returns-in-Some-clause-value c = found (holds c.self.invariant c.self.view_is) c.in-Some.id (options c.args.left.now c.args.right.now) (rw c.deref.ensures.value at c.in-Some.ensures.found)

full : (c : goal.After-drop-options-2) → Holds (c.args.self.now ++ form c.args.self.now c.args.left.now c.args.right.now ∷ []) c.push_reserved.new.self.lists c.enter.new.slots.items (get nat_eq c.enter.new.latest)
full c =
    let here = holds c.self.invariant c.self.view_is in
    let may : MayKeep c.args.self.now (options c.args.left.now c.args.right.now) = (let q = c.requires in record {
      canonical = q.canonical;
      lists = (q.left_ids, q.right_ids, q.left_ascends, q.right_ascends, q.no_number, q.left_some, q.right_some);
    }) in
    holds-options here _ _ (get nat_eq c.enter.new.latest) c.args.left.now c.args.right.now _ (length c.args.left.now) _ may
    (options-placed here _ _ c.least_ceiling.result c.greatest_floor.result may (rw c.deref-2.ensures.value at c.least_ceiling.ensures)
    (rw c.deref-3.ensures.value at c.greatest_floor.ensures) _ _ c.just_below-floor.ensures c.just_above-ceiling.ensures)
    (rw c.deref.ensures.value at c.in_default.ensures.absent)
    (c.push_reserved.ensures.lists ∙ ap₂ (λ (lists : List (List ℕ)) (is : List ℕ). lists ++ is ∷ []) c.in_ok-reserve.ensures.lists (c.deref-4.ensures.value ∙ c.in_ok-options.ensures))
    refl (c.len-2.ensures.count ∙ ap length c.in_ok-reserve.ensures.lists) refl
    c.in_ok-id.ensures.slots
    (rw (← c.fingerprint_options-fingerprint.ensures) (c.copied-before.ensures ∙ c.get.ensures.value))
    (rw c.fingerprint_options-fingerprint.ensures at c.in_ok-id.ensures.latest)

pub invariant_of-self-2 : goal.invariant_of-self-2
invariant_of-self-2 c = (full c).all

pub returns-clause-value : goal.returns-clause-value
returns-clause-value c = last-value _ _ _ _ (c.in_ok-id.ensures.id ∙ sym (length-trees (holds c.self.invariant c.self.view_is))) (full c).values_are

pub returns-clause-kept : goal.returns-clause-kept
returns-clause-kept c = extends-push _ _ _ (full c).values_are

pub least_ceiling-requires-clause-ids : goal.least_ceiling-requires-clause-ids
least_ceiling-requires-clause-ids c = rw c.deref-2.ensures.value (ids-below (holds c.self.invariant c.self.view_is) _ c.requires.right_ids)

pub greatest_floor-requires-clause-ids : goal.greatest_floor-requires-clause-ids
greatest_floor-requires-clause-ids c = rw c.deref-3.ensures.value (ids-below (holds c.self.invariant c.self.view_is) _ c.requires.left_ids)

pub just_above-ceiling-requires : goal.just_above-ceiling-requires
just_above-ceiling-requires c =
    let r = floor-small (holds c.self.invariant c.self.view_is) _ _ c.requires.left_ids (rw c.deref-3.ensures.value at c.greatest_floor.ensures) in
    omega (arith, ints, r.0, r.1)

pub invariant_of-self-in_err-id : goal.invariant_of-self-in_err-id
invariant_of-self-in_err-id c = rw (c.in_err-id.ensures.slots_kept, c.in_ok-reserve.ensures.lists)
    (holds-map (holds c.self.invariant c.self.view_is) _ c.in_err-id.ensures.latest_kept).all

pub find-requires-clause-befores : goal.find-requires-clause-befores
find-requires-clause-befores c = rw c.deref.ensures.value c.self.invariant.1.befores

pub find-requires-clause-latest : goal.find-requires-clause-latest
find-requires-clause-latest c = rw c.deref.ensures.value (c.copied-before.ensures ∙ c.get.ensures.value ∙ ap (get nat_eq c.self.inside.latest) c.fingerprint_options-fingerprint.ensures ∙ c.self.invariant.1.latest_is _)

pub invariant_of-self : goal.invariant_of-self
invariant_of-self c = rw c.reserve.ensures.lists c.self.invariant

always : {T E P : Type 0} (r : Result T E) → P → OnErr r P
always (Ok x) p = tt
always (Err e) p = p

pub returns-in_err-reserve-clause-kept : goal.returns-in_err-reserve-clause-kept
returns-in_err-reserve-clause-kept c = extends-same _ _ (ap (λ ls. values ls (entries_of c.self.inside.slots.items)) c.reserve.ensures.lists ∙ c.self.view_is)

pub returns-in_err-reserve-clause-refusal : goal.returns-in_err-reserve-clause-refusal
returns-in_err-reserve-clause-refusal c = always _ (ap (λ ls. values ls (entries_of c.self.inside.slots.items)) c.reserve.ensures.lists ∙ c.self.view_is)

pub returns-in_err-id-clause-kept : goal.returns-in_err-id-clause-kept
returns-in_err-id-clause-kept c = extends-same _ _ (ap₂ (λ ls ss. values ls (entries_of ss)) c.reserve.ensures.lists c.in_err-id.ensures.slots_kept ∙ c.self.view_is)

pub returns-in_err-id-clause-refusal : goal.returns-in_err-id-clause-refusal
returns-in_err-id-clause-refusal c = always _ (ap₂ (λ ls ss. values ls (entries_of ss)) c.reserve.ensures.lists c.in_err-id.ensures.slots_kept ∙ c.self.view_is)
