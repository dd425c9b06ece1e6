use Rattle.std.proofs.Common.{sym, subst}
use Rattle.game_store.proofs.StoreLaws.{at_most}
use Rattle.local_value.specs.inner.Options.{IsNoBetter}
use Rattle.local_value.proofs.UndominatedLemmas.{in_order}
use Rattle.local_value.proofs.undominated.is_no_better.Goals as goal

pub returns-in-Black : goal.returns-in-Black
returns-in-Black c t = subst (λ p. IsNoBetter p c.args.store.now c.args.option c.args.other) (sym c.in-Black.is)
    (in_order c.args.store.now c.args.option c.args.other c.from-game.result c.from-rival.result _ _ c.from-game.ensures c.from-rival.ensures
    c.ceiling.ensures.ceiling c.floor.ensures.floor ((at_most _ _ _ c.le.ensures).0 t))

pub returns-in-White : goal.returns-in-White
returns-in-White c t = subst (λ p. IsNoBetter p c.args.store.now c.args.option c.args.other) (sym c.in-White.is)
    (in_order c.args.store.now c.args.other c.args.option c.from-rival.result c.from-game.result _ _ c.from-rival.ensures c.from-game.ensures
    c.ceiling-in-White.ensures.ceiling c.floor-in-White.ensures.floor ((at_most _ _ _ c.le-in-White.ensures).0 t))
