use Rattle.sgf_go.specs.Setup.{IsSet}
use Rattle.sgf_go.proofs.AreaLemmas.{Before}
use Rattle.sgf_go.proofs.replay.set_row.Given as goal

abbrev pub invariant-loop-column : goal.invariant-loop-column
invariant-loop-column l = IsSet l.fn.board (Before l.fn.board.columns l.row l.left l.right l.column) l.cell l.board
