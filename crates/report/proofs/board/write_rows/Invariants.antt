use Rattle.std.proofs.Common.{◌≡◌, ◌++◌, string_bytes}
use Rattle.report.specs.BoardText.{rows_text}
use Rattle.report.proofs.board.write_rows.Given as goal

abbrev pub invariant-loop-row : goal.invariant-loop-row
invariant-loop-row l = string_bytes l.text ≡ string_bytes l.fn.text ++ rows_text l.fn.board l.row
