use Rattle.std.proofs.Common.{◌∙◌, ap, sym, length, refl}
use Rattle.std.proofs.lemmas.Bool.{true≢false}
use Rattle.game_text.specs.NamedText.{nimber}
use Rattle.game_text.proofs.NimberIdLaws.{found-step, found-skip}
use Rattle.game_text.proofs.names.nimbers_of.Goals as goal
use Rattle.game_text.proofs.names.nimbers_of.Goals.{then-is_next_nimber+in_ok-push, else-is_next_nimber}

pub loop-id-preserved : goal.loop-id-preserved
loop-id-preserved c = elim c.if-is_next_nimber.branch [
  | then-is_next_nimber+in_ok-push w ↦ found-step c.args.store.now c.args.ids.now c.loop-id.found.items c.loop-id.id-index c.requires.distinct c.requires.closed c.loop-id-test.true c.loop-id.invariant (w.if-is_next_nimber.ensures.0 refl ∙ ap (λ ks. nimber (length ks)) c.deref.ensures.value) c.if-is_next_nimber.found.items (ap (λ z. z.items) w.found-is ∙ w.in_ok-push.ensures.items)
  | else-is_next_nimber w ↦ found-skip c.args.store.now c.args.ids.now c.loop-id.found.items c.loop-id.id-index c.requires.distinct c.requires.closed c.loop-id-test.true c.loop-id.invariant c.len-count.ensures.forms (λ e. true≢false (sym (w.if-is_next_nimber.ensures.1 (e ∙ ap (λ ks. nimber (length ks)) (sym c.deref.ensures.value))))) c.if-is_next_nimber.found.items (ap (λ z. z.items) w.found-is)
]
