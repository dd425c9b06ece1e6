use Rattle.std.proofs.Common.{◌≡◌, string_bytes}
use Rattle.board_orders.specs.Texts.{stones_below}
use Rattle.board_orders.proofs.texts.stones_text.Given as goal

abbrev pub invariant-stones : goal.invariant-stones
invariant-stones l = string_bytes l.text ≡ stones_below l.board l.colour l.number
