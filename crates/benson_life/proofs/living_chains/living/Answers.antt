use Rattle.std.proofs.lemmas.Bool.{OnFalse_at}
use Rattle.go_grid.proofs.PointsLemmas.{some_list}
use Rattle.benson_life.proofs.StrikingLemmas.{may_next, kept_alive}
use Rattle.benson_life.proofs.living_chains.living.Goals as goal

pub striking-preserved : goal.striking-preserved
striking-preserved c = may_next _ _ _ _ c.striking.invariant c.with_room-left.ensures

pub returns : goal.returns
returns c =
    let (points, listed) = some_list c.striking.kept in
    kept_alive c.args.board.now c.args.colour c.striking.kept c.with_room-left.result c.striking.invariant c.with_room-left.ensures
    (OnFalse_at c.if-not-lost_some.true c.lost_some.ensures.all) points listed
