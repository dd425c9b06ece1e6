use Rattle.benson_life.proofs.ContestLemmas.{contested_is}
use Rattle.benson_life.proofs.territory.open_points.Goals as goal

pub returns : goal.returns
returns c =
    contested_is c.args.board.now _ _ _ _ _ _ _ _ c.requires.black_alive c.requires.white_alive c.requires.black_counted
    c.requires.white_counted c.union-alive.ensures c.union-counted.ensures c.union.ensures
    (rw c.size.ensures.area at c.complement.ensures)
