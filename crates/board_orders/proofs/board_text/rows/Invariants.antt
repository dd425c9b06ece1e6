use Rattle.std.proofs.Common.{◌≡◌, string_bytes}
use Rattle.board_orders.specs.Texts.{rows_above}
use Rattle.board_orders.proofs.board_text.rows.Given as goal

abbrev pub invariant-rows : goal.invariant-rows
invariant-rows l = string_bytes l.text ≡ rows_above l.board l.row
