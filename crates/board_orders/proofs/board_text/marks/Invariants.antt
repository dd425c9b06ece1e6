use Rattle.std.proofs.Common.{◌≡◌, string_bytes}
use Rattle.board_orders.specs.Texts.{marks_below}
use Rattle.board_orders.proofs.board_text.marks.Given as goal

abbrev pub invariant-marks : goal.invariant-marks
invariant-marks l = string_bytes l.text ≡ marks_below l.board l.row l.column
