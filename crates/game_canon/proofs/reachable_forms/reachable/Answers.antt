use Rattle.std.proofs.Common.{List, ℕ, subst}
use Rattle.short_games.specs.Tree.{tree_at}
use Rattle.game_canon.specs.inner.Reachable.{AreFrom, IsLastBelow}
use Rattle.game_canon.proofs.ReachableLaws.{reaching-step, reaching-end}
use Rattle.game_canon.proofs.reachable_forms.reachable.Goals as goal

pub following-preserved : goal.following-preserved
following-preserved c = reaching-step c.args.store.now (tree_at c.args.store.now c.args.a) c.following.ids.items c.add_inner.new.ids.items c.following.end c.in-Some.id
    c.following.invariant (subst (λ (z : List ℕ). IsLastBelow z c.following.end c.in-Some.id) c.deref.ensures c.in-Some.ensures) c.in_ok-add_inner.ensures

pub returns : goal.returns
returns c = reaching-end c.args.store.now (tree_at c.args.store.now c.args.a) c.following.ids.items c.following.end c.following.invariant
    (subst (λ (z : List ℕ). AreFrom z c.following.end) c.deref.ensures c.in_default.ensures)
