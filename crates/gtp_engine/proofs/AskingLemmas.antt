-- Which file a line asks for.
use Rattle.std.proofs.Common.{refl, None}
use Rattle.gtp_engine.specs.Asking.{OrderNames}
use Rattle.gtp_engine.specs.Request.{Order}
use Rattle.gtp_engine.specs.Request.Order.{protocol_version, name, version, known_command, list_commands, boardsize, clear_board, komi, play, genmove, loadsgf, quit}
use Rattle.gtp_engine.specs.inner.Doing.{IsPlainOrder}

-- an order that asks for neither a file nor a turn names no file
pub plain_names : (order : Order) → IsPlainOrder order → OrderNames order None
plain_names protocol_version plain = refl
plain_names name plain = refl
plain_names version plain = refl
plain_names (known_command word) plain = refl
plain_names list_commands plain = refl
plain_names (boardsize n) plain = refl
plain_names clear_board plain = refl
plain_names (komi halves) plain = refl
plain_names (play c wanted) plain = absurd plain
plain_names (genmove c) plain = absurd plain
plain_names (loadsgf file after) plain = absurd plain
plain_names quit plain = refl
