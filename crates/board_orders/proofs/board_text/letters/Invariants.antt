use Rattle.std.proofs.Common.{◌≡◌, string_bytes}
use Rattle.board_orders.specs.Texts.{letters_below}
use Rattle.board_orders.proofs.board_text.letters.Given as goal

abbrev pub invariant-letters : goal.invariant-letters
invariant-letters l = string_bytes l.text ≡ letters_below l.column
