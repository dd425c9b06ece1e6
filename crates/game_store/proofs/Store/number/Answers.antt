use Rattle.std.proofs.Common.{[], ◌∷◌, ◌++◌, refl, sym, ◌∙◌, nat_eq}
use Rattle.std.specs.HashMap.{get}
use Rattle.short_games.specs.Number.{number_tree}
use Rattle.short_games.proofs.ReductionLaws.{number-canonical}
use Rattle.game_store.specs.Meaning.Wanted.{number}
use Rattle.game_store.proofs.EntryLaws.{extends-push, last-value}
use Rattle.game_store.proofs.StoreLaws.{Holds, found, holds, holds-map, holds-new, length-trees, number-placed}
use Rattle.game_store.proofs.Store.number.Goals as goal

pub returns-in-Some-clause-value : goal.returns-in-Some-clause-value
returns-in-Some-clause-value c = found (holds c.self.invariant c.self.view_is) c.in-Some.id (number c.args.x) (rw c.deref.ensures.value at c.in-Some.ensures.found)

full : (c : goal.In_ok-id) → Holds (c.args.self.now ++ number_tree c.args.x ∷ []) c.self.inside.pool.lists c.enter.new.slots.items (get nat_eq c.enter.new.latest)
full c = holds-new (holds c.self.invariant c.self.view_is) _ (get nat_eq c.enter.new.latest) (number c.args.x) _
    (record { canonical = number-canonical 60 c.args.x; lists = tt }) (number-placed c.args.x _ c.at-at.ensures.bounds c.at-at.ensures.place) tt refl
    (rw c.deref.ensures.value at c.in_default.ensures.absent)
    c.in_ok-id.ensures.slots
    (rw (← c.fingerprint_number-fingerprint.ensures) (c.copied-before.ensures ∙ c.get.ensures.value))
    (rw c.fingerprint_number-fingerprint.ensures at c.in_ok-id.ensures.latest)

pub invariant_of-self-2 : goal.invariant_of-self-2
invariant_of-self-2 c = (full c).all

pub returns-clause-value : goal.returns-clause-value
returns-clause-value c = last-value _ _ _ _ (c.in_ok-id.ensures.id ∙ sym (length-trees (holds c.self.invariant c.self.view_is))) (full c).values_are

pub returns-clause-kept : goal.returns-clause-kept
returns-clause-kept c = extends-push _ _ _ (full c).values_are

pub invariant_of-self : goal.invariant_of-self
invariant_of-self c = rw c.in_err-id.ensures.slots_kept
    (holds-map (holds c.self.invariant c.self.view_is) _ c.in_err-id.ensures.latest_kept).all
