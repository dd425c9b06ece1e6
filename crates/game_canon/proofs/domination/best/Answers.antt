use Rattle.std.proofs.Common.{List, ℕ, ◌++◌, subst}
use Rattle.game_canon.specs.inner.Sides.{AreBest}
use Rattle.game_canon.proofs.SideLaws.{best-none, best-ordered}
use Rattle.game_canon.proofs.domination.best.Goals as goal

pub take_in_all-requires-clause-best : goal.take_in_all-requires-clause-best
take_in_all-requires-clause-best c = best-none c.args.side c.args.games.now.store.now c.new-best.result.items c.new-best.ensures.items

pub returns-clause-best : goal.returns-clause-best
returns-clause-best c = best-ordered c.args.side c.args.games.now.store.now c.args.ids.now _ _
    (subst (λ (z : List ℕ). AreBest c.args.side c.args.games.now.store.now (z ++ c.args.ids.now) c.take_in_all.new.best.items) c.new-best.ensures.items c.in_ok-take_in_all.ensures.best) c.arrange.ensures

pub returns-clause-ascends : goal.returns-clause-ascends
returns-clause-ascends c = c.arrange.ensures.ascends
