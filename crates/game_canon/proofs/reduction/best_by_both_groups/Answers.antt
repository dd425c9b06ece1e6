use Rattle.game_canon.proofs.CanonicalFormLaws.{starts}
use Rattle.game_canon.proofs.reduction.best_by_both_groups.Goals as goal

pub returns-clause-starts : goal.returns-clause-starts
returns-clause-starts c = starts c.args.games.now.store.now c.args.left.now c.args.right.now _ _ c.in_ok-left.ensures.best
    c.in_ok-left.ensures.ascends c.in_ok-right.ensures.best c.in_ok-right.ensures.ascends
