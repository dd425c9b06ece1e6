use Rattle.sgf_go.specs.inner.Reading.{rectangle}
use Rattle.sgf_go.specs.Setup.{IsSet}
use Rattle.sgf_go.proofs.AreaLemmas.{Above}
use Rattle.sgf_go.proofs.replay.set_area.Given as goal

abbrev pub invariant-loop-row : goal.invariant-loop-row
invariant-loop-row l = IsSet l.fn.board (Above l.fn.board.columns (rectangle l.area) l.row) l.cell l.board
