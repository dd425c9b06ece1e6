use Rattle.std.proofs.Common.{sym, subst}
use Rattle.std.proofs.lemmas.Result.{IfOk-weaker}
use Rattle.game_store.specs.Meaning.{listed}
use Rattle.game_canon.specs.FormComparisons.{AreFormComparisonsRight}
use Rattle.game_canon.proofs.AnswerLaws.{cause-made}
use Rattle.game_canon.proofs.CanonicalFormLaws.{ready, made-id, made-not, form-near, right-grown}
use Rattle.game_canon.proofs.canonical_forms.reduced_form.Goals as goal

pub entered-requires-clause-left_ids : goal.entered-requires-clause-left_ids
entered-requires-clause-left_ids c = (ready c.args.store.now (listed c.args.store.now c.args.left.now c.args.right.now) _ _ _ _ c.len-count.ensures.canonical c.requires.no_number c.in_ok-lists.ensures.reduced c.deref.ensures c.deref-2.ensures).left_ids

pub entered-requires-clause-right_ids : goal.entered-requires-clause-right_ids
entered-requires-clause-right_ids c = (ready c.args.store.now (listed c.args.store.now c.args.left.now c.args.right.now) _ _ _ _ c.len-count.ensures.canonical c.requires.no_number c.in_ok-lists.ensures.reduced c.deref.ensures c.deref-2.ensures).right_ids

pub entered-requires-clause-left_ascends : goal.entered-requires-clause-left_ascends
entered-requires-clause-left_ascends c = (ready c.args.store.now (listed c.args.store.now c.args.left.now c.args.right.now) _ _ _ _ c.len-count.ensures.canonical c.requires.no_number c.in_ok-lists.ensures.reduced c.deref.ensures c.deref-2.ensures).left_ascends

pub entered-requires-clause-right_ascends : goal.entered-requires-clause-right_ascends
entered-requires-clause-right_ascends c = (ready c.args.store.now (listed c.args.store.now c.args.left.now c.args.right.now) _ _ _ _ c.len-count.ensures.canonical c.requires.no_number c.in_ok-lists.ensures.reduced c.deref.ensures c.deref-2.ensures).right_ascends

pub entered-requires-clause-left_some : goal.entered-requires-clause-left_some
entered-requires-clause-left_some c = (ready c.args.store.now (listed c.args.store.now c.args.left.now c.args.right.now) _ _ _ _ c.len-count.ensures.canonical c.requires.no_number c.in_ok-lists.ensures.reduced c.deref.ensures c.deref-2.ensures).left_some

pub entered-requires-clause-right_some : goal.entered-requires-clause-right_some
entered-requires-clause-right_some c = (ready c.args.store.now (listed c.args.store.now c.args.left.now c.args.right.now) _ _ _ _ c.len-count.ensures.canonical c.requires.no_number c.in_ok-lists.ensures.reduced c.deref.ensures c.deref-2.ensures).right_some

pub entered-requires-clause-canonical : goal.entered-requires-clause-canonical
entered-requires-clause-canonical c = (ready c.args.store.now (listed c.args.store.now c.args.left.now c.args.right.now) _ _ _ _ c.len-count.ensures.canonical c.requires.no_number c.in_ok-lists.ensures.reduced c.deref.ensures c.deref-2.ensures).canonical.canonical

pub entered-requires-clause-no_number : goal.entered-requires-clause-no_number
entered-requires-clause-no_number c = made-not (listed c.args.store.now c.args.left.now c.args.right.now) _ c.requires.no_number (ready c.args.store.now (listed c.args.store.now c.args.left.now c.args.right.now) _ _ _ _ c.len-count.ensures.canonical c.requires.no_number c.in_ok-lists.ensures.reduced c.deref.ensures c.deref-2.ensures).canonical

pub returns-clause-value : goal.returns-clause-value
returns-clause-value c = IfOk-weaker c.entered.result _ _ (λ id. made-id c.entered.new.store (listed c.args.store.now c.args.left.now c.args.right.now) _ id (ready c.args.store.now (listed c.args.store.now c.args.left.now c.args.right.now) _ _ _ _ c.len-count.ensures.canonical c.requires.no_number c.in_ok-lists.ensures.reduced c.deref.ensures c.deref-2.ensures).canonical) c.entered.ensures.value

pub returns-clause-refusal : goal.returns-clause-refusal
returns-clause-refusal c = cause-made (listed c.args.store.now c.args.left.now c.args.right.now) _ c.args.parts_limit c.entered.result c.requires.no_number (ready c.args.store.now (listed c.args.store.now c.args.left.now c.args.right.now) _ _ _ _ c.len-count.ensures.canonical c.requires.no_number c.in_ok-lists.ensures.reduced c.deref.ensures c.deref-2.ensures).canonical c.entered.ensures.refusal

pub returns-clause-sizes : goal.returns-clause-sizes
returns-clause-sizes c = IfOk-weaker c.entered.result _ _ (λ id i b w. form-near c.args.store.now c.entered.new.store (listed c.args.store.now c.args.left.now c.args.right.now) _ _ _ _ id b c.in_ok-lists.ensures.reduced c.deref.ensures c.deref-2.ensures (ready c.args.store.now (listed c.args.store.now c.args.left.now c.args.right.now) _ _ _ _ c.len-count.ensures.canonical c.requires.no_number c.in_ok-lists.ensures.reduced c.deref.ensures c.deref-2.ensures).no_number i w) c.entered.ensures.value

pub returns-clause-comparisons : goal.returns-clause-comparisons
returns-clause-comparisons c = right-grown c.args.store.now c.entered.new.store _ c.entered.ensures.kept c.reduced.ensures.memo

pub returns-clause-kept : goal.returns-clause-kept
returns-clause-kept c = c.entered.ensures.kept

pub reduced-requires-clause-memo : goal.reduced-requires-clause-memo
reduced-requires-clause-memo c = subst (AreFormComparisonsRight c.args.store.now) (sym c.comparisons.view_is)
    (c.limit.ensures c.args.store.now c.requires.comparisons)
