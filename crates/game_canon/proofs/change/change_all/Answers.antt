use Rattle.std.proofs.Common.{List, ℕ, ◌+◌, ◌∙◌, sym, ap, subst, length, get_or}
use Rattle.std.proofs.lemmas.List.{length-append}
use Rattle.game_canon.specs.inner.Changes.{noted, AreNoted}
use Rattle.game_canon.proofs.ChangedIdLaws.{step-noted, step-done, noted-next}
use Rattle.game_canon.proofs.change.change_all.Goals as goal

pub changed_form-requires-clause-noted : goal.changed_form-requires-clause-noted
changed_form-requires-clause-noted c = subst (λ (z : List ℕ). AreNoted c.loop-id.store (noted c.args.ids.now z) c.args.change.now (get_or c.args.ids.now c.loop-id.id-index 0)) (sym c.deref.ensures)
    (step-noted c.args.store.now c.loop-id.store c.args.change.now (noted c.args.ids.now c.loop-id.afters.items) c.args.ids.now c.loop-id.id-index c.loop-id.invariant.0 c.requires.closed c.loop-id-test.true)

pub loop-id-preserved : goal.loop-id-preserved
loop-id-preserved c = (
  step-done c.args.store.now c.loop-id.store c.args.change.now (noted c.args.ids.now c.loop-id.afters.items) c.args.ids.now c.loop-id.id-index c.loop-id.invariant.0 c.requires.closed c.loop-id-test.true c.changed_form.new.store (noted c.args.ids.now c.note.new.afters.items) _ c.changed_form.ensures.kept c.in_ok-after.ensures.value
      (noted-next c.args.ids.now c.loop-id.afters.items c.note.new.afters.items c.loop-id.id-index c.in_ok-after.after c.requires.closed.ascends c.loop-id-test.true c.loop-id.invariant.1 c.in_ok-note.ensures),
  ap length c.in_ok-note.ensures ∙ length-append c.loop-id.afters.items _ ∙ ap (λ n. n + 1) c.loop-id.invariant.1,
)
