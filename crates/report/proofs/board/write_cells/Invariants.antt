use Rattle.std.proofs.Common.{◌≡◌, ◌++◌, string_bytes}
use Rattle.report.specs.BoardText.{cells_text}
use Rattle.report.proofs.board.write_cells.Given as goal

abbrev pub invariant-loop-column : goal.invariant-loop-column
invariant-loop-column l = string_bytes l.text ≡ string_bytes l.fn.text ++ cells_text l.fn.board l.fn.row l.column
