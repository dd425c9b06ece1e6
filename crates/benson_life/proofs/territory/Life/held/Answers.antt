use Rattle.go_grid.proofs.PointsLemmas.{lists_same}
use Rattle.benson_life.specs.Life.{IsCounted}
use Rattle.benson_life.proofs.ContestLemmas.{counted_short}
use Rattle.benson_life.proofs.territory.Life.held.Goals as goal

pub held-requires-clause-ascending : goal.held-requires-clause-ascending
held-requires-clause-ascending c = rw c.deref.ensures.value c.in_ok-counted.ensures.ascending

pub held-requires-clause-on_board : goal.held-requires-clause-on_board
held-requires-clause-on_board c k d =
    rw c.deref.ensures.value
    (counted_short c.args.board.now c.args.colour c.in_ok-counted.counted.items
    (lists_same _ _ (IsCounted c.args.board.now c.args.colour) c.in_ok-counted.ensures c.requires.counted) k d)

pub returns : goal.returns
returns c =
    c.held.ensures.held
    (rw c.deref.ensures.value
    (lists_same _ _ (IsCounted c.args.board.now c.args.colour) c.in_ok-counted.ensures c.requires.counted))
