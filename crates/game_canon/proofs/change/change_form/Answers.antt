use Rattle.std.proofs.Common.{sym, subst}
use Rattle.short_games.specs.Tree.{tree_at}
use Rattle.game_canon.specs.Reachable.{AreReachable}
use Rattle.game_canon.proofs.change.change_form.Goals as goal

pub change_reached-requires-clause-reached : goal.change_reached-requires-clause-reached
change_reached-requires-clause-reached c = subst (AreReachable c.args.store.now (tree_at c.args.store.now c.args.a)) (sym c.deref.ensures) c.in_ok-ids.ensures
