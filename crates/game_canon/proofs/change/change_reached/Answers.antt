use Rattle.std.proofs.Common.{List, ℕ, ◌∙◌, ◌≡◌, sym, subst, Some, None}
use Rattle.std.proofs.lemmas.Result.{err_from_is_err_and}
use Rattle.short_games.specs.Tree.{tree_at}
use Rattle.game_canon.specs.inner.Changes.{noted, IsRefused}
use Rattle.game_canon.proofs.ChangedIdLaws.{passed-on, not-none, reachable-closed, root-noted, root-is, all-refused}
use Rattle.game_canon.proofs.change.change_reached.Goals as goal

pub change_all-requires-clause-closed : goal.change_all-requires-clause-closed
change_all-requires-clause-closed c = reachable-closed c.args.store.now _ c.args.ids.now c.requires.reached

pub unreachable-requires : goal.unreachable-requires
unreachable-requires c =
    let r = root-noted c.args.store.now c.change_all.new.store c.args.a c.args.ids.now c.args.change.now (noted c.args.ids.now c.change_all.new.afters.items) c.len-count.ensures.distinct c.requires.id c.requires.reached c.in_ok-change_all.ensures.done in
    not-none r.0 (noted c.args.ids.now c.change_all.new.afters.items c.args.a) r.1
    (subst (λ (z : List ℕ). noted c.args.ids.now z c.args.a ≡ None) c.deref.ensures (sym c.after_of.ensures ∙ c.in-None.is))

pub returns-clause-value : goal.returns-clause-value
returns-clause-value c = root-is c.args.store.now c.change_all.new.store c.args.a c.in-Some.after c.args.ids.now c.args.change.now (noted c.args.ids.now c.change_all.new.afters.items) c.len-count.ensures.distinct c.requires.id c.requires.reached c.in_ok-change_all.ensures.done
    (subst (λ (z : List ℕ). noted c.args.ids.now z c.args.a ≡ Some c.in-Some.after) c.deref.ensures (sym c.after_of.ensures ∙ c.in-Some.is))

pub returns-in_err-change_all-clause-refusal : goal.returns-in_err-change_all-clause-refusal
returns-in_err-change_all-clause-refusal c = passed-on c.from_residual.result _ (IsRefused c.args.change.now (tree_at c.args.store.now c.args.a)) (err_from_is_err_and c.from_residual.result c.from_residual.ensures.1)
    (all-refused c.args.store.now (tree_at c.args.store.now c.args.a) c.args.ids.now c.args.change.now _ c.requires.reached c.in_err-change_all.ensures.refusal)
