-- Which file a line asks for.
use Rattle.std.proofs.Common.{refl, None}
use Rattle.board_session.specs.Asking.{OrderNames}
use Rattle.board_orders.specs.Orders.{BoardOrder}
use Rattle.board_orders.specs.Orders.BoardOrder.{tell, known, ask, boardsize, clear_board, komi, play, genmove, reg_genmove, analyse, loadsgf, undo, fixed_handicap, free_handicap, quit}
use Rattle.board_orders.specs.Doing.{IsPlainOrder}

-- an order that asks for neither a file nor the solver names no file
pub plain_names : (order : BoardOrder) → IsPlainOrder order → OrderNames order None
plain_names (tell text) plain = refl
plain_names (known word) plain = refl
plain_names (ask question) plain = refl
plain_names (boardsize n) plain = refl
plain_names clear_board plain = refl
plain_names (komi halves) plain = refl
plain_names (play c w) plain = refl
plain_names (genmove c) plain = absurd plain
plain_names (reg_genmove c) plain = absurd plain
plain_names (analyse x) plain = absurd plain
plain_names (loadsgf file after) plain = absurd plain
plain_names undo plain = refl
plain_names (fixed_handicap n) plain = refl
plain_names (free_handicap words) plain = refl
plain_names quit plain = refl
