use Rattle.std.proofs.Common.{◌≡◌, ◌≤◌, length, drop, string_bytes}
use Rattle.board_orders.specs.Texts.{history_text}
use Rattle.board_orders.proofs.texts.history_text.Given as goal

abbrev pub invariant-moves : goal.invariant-moves
invariant-moves l = (string_bytes l.text ≡ history_text l.size.columns l.size.rows (drop l.left l.moves)) × (l.left ≤ length l.moves)

abbrev pub decreases-moves : goal.decreases-moves
decreases-moves l = l.left
