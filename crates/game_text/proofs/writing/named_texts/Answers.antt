use Rattle.std.proofs.Common.{sym, subst}
use Rattle.std.proofs.lemmas.Result.{err_from_is_err_and}
use Rattle.short_games.specs.Tree.{tree_at}
use Rattle.game_canon.specs.Reachable.{AreReachable}
use Rattle.game_canon.proofs.ChangedIdLaws.{reachable-closed}
use Rattle.game_text.specs.Refusals.{IsWriteRefusal}
use Rattle.game_text.proofs.WritingSteps.{passed-on, all-too_long}
use Rattle.game_text.proofs.writing.named_texts.Goals as goal

pub nimbers_of-requires-clause-closed : goal.nimbers_of-requires-clause-closed
nimbers_of-requires-clause-closed c = reachable-closed c.args.store.now _ c.deref-forms.result.now (subst (AreReachable c.args.store.now (tree_at c.args.store.now c.args.id)) (sym c.deref-forms.ensures) c.in_ok-ids.ensures)

pub write_all-requires-clause-closed : goal.write_all-requires-clause-closed
write_all-requires-clause-closed c = reachable-closed c.args.store.now _ c.deref-forms.result.now (subst (AreReachable c.args.store.now (tree_at c.args.store.now c.args.id)) (sym c.deref-forms.ensures) c.in_ok-ids.ensures)

pub returns-in_err-write_all-clause-refusal : goal.returns-in_err-write_all-clause-refusal
returns-in_err-write_all-clause-refusal c = passed-on c.from_residual-in_err-write_all.result _ (IsWriteRefusal (tree_at c.args.store.now c.args.id) c.args.limit) (err_from_is_err_and c.from_residual-in_err-write_all.result c.from_residual-in_err-write_all.ensures.1)
    (all-too_long c.args.store.now (tree_at c.args.store.now c.args.id) c.deref-forms.result.now c.args.limit _ (subst (AreReachable c.args.store.now (tree_at c.args.store.now c.args.id)) (sym c.deref-forms.ensures) c.in_ok-ids.ensures) c.in_err-write_all.ensures.refusal)
