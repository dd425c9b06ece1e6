use Rattle.std.proofs.Common.{◌≡◌, ◌∙◌, sym, ap, subst, length, arith}
use Rattle.endgame_solver.specs.inner.Sharing.{AreNegatives}
use Rattle.endgame_solver.proofs.SharingLaws.{lent_back, turned_step}
use Rattle.endgame_solver.proofs.view_book.negatives.Goals as goal

pub negative_of-requires-clause-right : goal.negative_of-requires-clause-right
negative_of-requires-clause-right c = subst (AreNegatives c.ids.store) (sym c.deref_mut.ensures.value) c.ids.invariant.noted

pub ids-preserved : goal.ids-preserved
ids-preserved c =
    let long : length c.negative_of.new.known ≡ length c.ids.known.items = c.negative_of.ensures.long ∙ ap length c.deref_mut.ensures.value in
    rw (lent_back c.ids.known.len c.negative_of.new.known c.ids.known.items long c.ids.known.ok.0, c.in_ok-push.ensures.ok)
    (turned_step c.args.store.now c.args.ids.now c.ids.store c.negative_of.new.store c.ids.known.items c.negative_of.new.known c.ids.turned c.ids.id-index
    c.in_ok-negative_of.field-0 c.requires c.ids-test.true c.ids.invariant c.negative_of.ensures.kept long c.in_ok-negative_of.ensures.right c.in_ok-negative_of.ensures.value)

pub negative_of-requires-clause-id : goal.negative_of-requires-clause-id
negative_of-requires-clause-id c =
    let known = c.requires c.ids.id-index c.ids-test.true in
    omega (arith, known, c.ids.invariant.kept.longer)

pub negative_of-requires-clause-place : goal.negative_of-requires-clause-place
negative_of-requires-clause-place c =
    let known = c.requires c.ids.id-index c.ids-test.true in
    omega (arith, known, c.ids.invariant.as_long, ap length c.deref_mut.ensures.value)
