use Rattle.std.proofs.Common.{sym, subst}
use Rattle.std.specs.Prelude.{IfOk, IfErr}
use Rattle.game_store.specs.Meaning.{IsAscending}
use Rattle.game_canon.specs.inner.Changes.{noted, IsChanged, IsRefusedAt}
use Rattle.game_canon.proofs.ChangedIdLaws.{known-left, known-right, IsMade, made-lent, made-id}
use Rattle.game_canon.proofs.change.changed_form.Goals as goal

pub changed_lists-requires-clause-left : goal.changed_lists-requires-clause-left
changed_lists-requires-clause-left c = let o = c.in-Options.ensures.form in known-left c.args.store.now (noted c.args.changed.now.ids.now c.args.changed.now.afters.now) c.args.change c.args.id c.in-Options.ensures.distinct c.requires.id c.requires.noted o.no_number _ _ o

pub changed_lists-requires-clause-right : goal.changed_lists-requires-clause-right
changed_lists-requires-clause-right c = let o = c.in-Options.ensures.form in known-right c.args.store.now (noted c.args.changed.now.ids.now c.args.changed.now.afters.now) c.args.change c.args.id c.in-Options.ensures.distinct c.requires.id c.requires.noted o.no_number _ _ o

lent : (c : goal.After-deref-in-Options) → IsMade c.args.store.now (noted c.args.changed.now.ids.now c.args.changed.now.afters.now) c.args.change c.args.id c.in-Options.ensures.distinct c.requires.id c.requires.noted c.in-Options.ensures.form.no_number c.in-Options.left.now c.in-Options.right.now c.in-Options.ensures.form c.deref.result.now c.deref-in-Options.result.now
lent c = let o = c.in-Options.ensures.form in made-lent c.args.store.now (noted c.args.changed.now.ids.now c.args.changed.now.afters.now) c.args.change c.args.id c.in-Options.ensures.distinct c.requires.id c.requires.noted o.no_number _ _ o _ _ _ _ c.deref.ensures c.deref-in-Options.ensures c.in-Options.ensures.canonical c.in_ok-lists-in-Options.ensures.left c.in_ok-lists-in-Options.ensures.right

pub intern-made-requires-clause-left_ids : goal.intern-made-requires-clause-left_ids
intern-made-requires-clause-left_ids c = (lent c).left_ids

pub intern-made-requires-clause-right_ids : goal.intern-made-requires-clause-right_ids
intern-made-requires-clause-right_ids c = (lent c).right_ids

pub intern-made-requires-clause-left_some : goal.intern-made-requires-clause-left_some
intern-made-requires-clause-left_some c = (lent c).left_some

pub intern-made-requires-clause-right_some : goal.intern-made-requires-clause-right_some
intern-made-requires-clause-right_some c = (lent c).right_some

pub intern-made-requires-clause-canonical : goal.intern-made-requires-clause-canonical
intern-made-requires-clause-canonical c = (lent c).canonical.canonical

pub intern-made-requires-clause-no_number : goal.intern-made-requires-clause-no_number
intern-made-requires-clause-no_number c = (lent c).no_form

pub returns-in_ok-made-in-Options-clause-value : goal.returns-in_ok-made-in-Options-clause-value
returns-in_ok-made-in-Options-clause-value c =
    let o = c.in-Options.ensures.form in
    let made = made-lent c.args.store.now (noted c.args.changed.now.ids.now c.args.changed.now.afters.now) c.args.change c.args.id c.in-Options.ensures.distinct c.requires.id c.requires.noted o.no_number _ _ o _ _ _ _ c.deref.ensures c.deref-in-Options.ensures c.in-Options.ensures.canonical c.in_ok-lists-in-Options.ensures.left c.in_ok-lists-in-Options.ensures.right in
    made-id c.args.store.now (noted c.args.changed.now.ids.now c.args.changed.now.afters.now) c.args.change c.args.id c.in-Options.ensures.distinct c.requires.id c.requires.noted o.no_number _ _ o _ _ _ _ made c.in_ok-made-in-Options.ensures.value

pub intern-made-requires-clause-left_ascends : goal.intern-made-requires-clause-left_ascends
intern-made-requires-clause-left_ascends c = subst IsAscending (sym c.deref.ensures) c.in_ok-lists-in-Options.ensures.left.ascends

pub intern-made-requires-clause-right_ascends : goal.intern-made-requires-clause-right_ascends
intern-made-requires-clause-right_ascends c = subst IsAscending (sym c.deref-in-Options.ensures) c.in_ok-lists-in-Options.ensures.right.ascends

pub returns-in_ok-made-in-Options-clause-kept : goal.returns-in_ok-made-in-Options-clause-kept
returns-in_ok-made-in-Options-clause-kept c = c.intern-made.ensures.kept

pub returns-in_err-made-in-Options-clause-kept : goal.returns-in_err-made-in-Options-clause-kept
returns-in_err-made-in-Options-clause-kept c = c.intern-made.ensures.kept

pub returns-in-Number-clause-value : goal.returns-in-Number-clause-value
returns-in-Number-clause-value c = subst (λ G. IfOk c.changed_number.result (λ k. IsChanged c.changed_number.new.store c.args.change G k)) (sym c.in-Number.ensures.form) c.changed_number.ensures.value

pub returns-in-Number-clause-refusal : goal.returns-in-Number-clause-refusal
returns-in-Number-clause-refusal c = subst (λ G. IfErr c.changed_number.result (λ error. IsRefusedAt c.args.change G error)) (sym c.in-Number.ensures.form) c.changed_number.ensures.refusal

pub returns-in-Number-clause-kept : goal.returns-in-Number-clause-kept
returns-in-Number-clause-kept c = c.changed_number.ensures.kept
