use Rattle.go_grid.proofs.ChainLemmas.{breathing_marks}
use Rattle.go_grid.proofs.boards.Board.breathing.Goals as goal

pub returns : goal.returns
returns c =
    breathing_marks c.args.self.now c.args.colour _ _ _ _ c.stones-stones.ensures c.empties.ensures
    (rw c.size-size.ensures.columns at c.edge.ensures) (rw c.size-size.ensures.columns at c.fill_all.ensures)
