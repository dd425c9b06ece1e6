use Rattle.std.proofs.Common.{sym, ◌∙◌, subst}
use Rattle.std.proofs.lemmas.Result.{err_from_is_err_and}
use Rattle.short_games.specs.Tree.{tree_at}
use Rattle.game_canon.specs.Reachable.{AreReachable}
use Rattle.game_canon.proofs.ChangedIdLaws.{passed-on, reachable-closed}
use Rattle.game_calc.specs.Steps.{IsStepRefusal}
use Rattle.game_calc.specs.inner.Table.{noted}
use Rattle.game_calc.proofs.TableSteps.{not-none}
use Rattle.game_calc.proofs.PlaceSteps.{root-known, root-sum, all-within, one-refused}
use Rattle.game_calc.proofs.sums.add_by_table.Goals as goal

pub add_all-requires-clause-first : goal.add_all-requires-clause-first
add_all-requires-clause-first c = reachable-closed c.args.store.now (tree_at c.args.store.now c.args.a) c.deref.result.now (subst (AreReachable c.args.store.now (tree_at c.args.store.now c.args.a)) (sym c.deref.ensures) c.in_ok-first.ensures)

pub add_all-requires-clause-second : goal.add_all-requires-clause-second
add_all-requires-clause-second c = reachable-closed c.args.store.now (tree_at c.args.store.now c.args.b) c.deref-2.result.now (subst (AreReachable c.args.store.now (tree_at c.args.store.now c.args.b)) (sym c.deref-2.ensures) c.in_ok-second.ensures)

pub returns-in_err-add_all-clause-refusal : goal.returns-in_err-add_all-clause-refusal
returns-in_err-add_all-clause-refusal c =
    let G = tree_at c.args.store.now c.args.a in
    let H = tree_at c.args.store.now c.args.b in
    passed-on c.from_residual-in_err-add_all.result _ (IsStepRefusal c.args.parts_limit G H) (err_from_is_err_and c.from_residual-in_err-add_all.result c.from_residual-in_err-add_all.ensures.1)
    (one-refused c.args.store.now c.args.parts_limit G H c.deref.result.now c.deref-2.result.now _ c.len-count.ensures.forms (subst (AreReachable c.args.store.now G) (sym c.deref.ensures) c.in_ok-first.ensures)
    (subst (AreReachable c.args.store.now H) (sym c.deref-2.ensures) c.in_ok-second.ensures) c.in_err-add_all.ensures.refusal)

pub unreachable-requires : goal.unreachable-requires
unreachable-requires c =
    let r = root-known c.args.store.now c.args.a c.args.b (noted c.add_all.new.sums) c.deref.result.now c.deref-2.result.now c.len-count.ensures.distinct c.requires.a c.requires.b
    (subst (AreReachable c.args.store.now (tree_at c.args.store.now c.args.a)) (sym c.deref.ensures) c.in_ok-first.ensures) (subst (AreReachable c.args.store.now (tree_at c.args.store.now c.args.b)) (sym c.deref-2.ensures) c.in_ok-second.ensures)
    c.in_ok-add_all.ensures.known in
    not-none r.0 (noted c.add_all.new.sums c.args.a c.args.b) r.1 (sym c.get.ensures.value ∙ sym c.copied.ensures ∙ c.in-None.is)

pub returns-clause-value : goal.returns-clause-value
returns-clause-value c = root-sum c.args.store.now c.add_all.new.store c.args.parts_limit c.args.a c.args.b c.in-Some.sum (noted c.add_all.new.sums) c.add_all.ensures.kept c.requires.a c.requires.b c.in_ok-add_all.ensures.right
    (sym c.get.ensures.value ∙ sym c.copied.ensures ∙ c.in-Some.is)

pub returns-clause-within : goal.returns-clause-within
returns-clause-within c =
    all-within c.args.store.now c.add_all.new.store c.args.parts_limit (tree_at c.args.store.now c.args.a) (tree_at c.args.store.now c.args.b) (noted c.add_all.new.sums) c.deref.result.now c.deref-2.result.now c.add_all.ensures.kept c.len-new_count.ensures.forms
    (subst (AreReachable c.args.store.now (tree_at c.args.store.now c.args.a)) (sym c.deref.ensures) c.in_ok-first.ensures) (subst (AreReachable c.args.store.now (tree_at c.args.store.now c.args.b)) (sym c.deref-2.ensures) c.in_ok-second.ensures)
    c.in_ok-add_all.ensures.known c.in_ok-add_all.ensures.right

pub returns-clause-kept : goal.returns-clause-kept
returns-clause-kept c = c.add_all.ensures.kept

pub returns-in_err-add_all-clause-kept : goal.returns-in_err-add_all-clause-kept
returns-in_err-add_all-clause-kept c = c.add_all.ensures.kept
