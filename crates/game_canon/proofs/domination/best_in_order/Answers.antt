use Rattle.std.proofs.Common.{List, ℕ, ◌++◌, ◌∙◌, sym, subst, append-nil}
use Rattle.game_canon.specs.inner.Sides.{AreBest}
use Rattle.game_canon.proofs.SideLaws.{best-start, best-ordered}
use Rattle.game_canon.proofs.domination.best_in_order.Goals as goal

pub take_in_all-requires-clause-best : goal.take_in_all-requires-clause-best
take_in_all-requires-clause-best c = subst (λ (z : List ℕ). AreBest c.args.side c.args.games.now.store.now z c.in_ok-best.best.items)
    (append-nil c.args.free.now ∙ sym c.in_ok-best.ensures.ok)
    (best-start c.args.side c.args.games.now.store.now c.args.free.now _ c.in_ok-best.ensures.ok c.requires.free_ids c.requires.free)

pub returns-clause-best : goal.returns-clause-best
returns-clause-best c = best-ordered c.args.side c.args.games.now.store.now (c.args.free.now ++ c.args.ids.now) _ _
    (subst (λ (z : List ℕ). AreBest c.args.side c.args.games.now.store.now (z ++ c.args.ids.now) c.take_in_all.new.best.items) c.in_ok-best.ensures.ok c.in_ok-take_in_all.ensures.best) c.arrange.ensures

pub returns-clause-ascends : goal.returns-clause-ascends
returns-clause-ascends c = c.arrange.ensures.ascends
