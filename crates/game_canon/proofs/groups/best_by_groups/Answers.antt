use Rattle.game_canon.proofs.GroupLaws.{groups-best}
use Rattle.game_canon.proofs.SideLaws.{best-ordered}
use Rattle.game_canon.proofs.groups.best_by_groups.Goals as goal

pub returns-clause-best : goal.returns-clause-best
returns-clause-best c =
    let best = groups-best c.args.side c.args.games.now.store.now c.args.ids.now _ _ _ c.args.cut c.split_at.ensures.front c.split_at.ensures.back c.in_ok-best.ensures.best in
    best-ordered c.args.side c.args.games.now.store.now c.args.ids.now _ _ best c.arrange.ensures

pub returns-clause-ascends : goal.returns-clause-ascends
returns-clause-ascends c = c.arrange.ensures.ascends
