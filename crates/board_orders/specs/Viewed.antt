-- What contracts see of requests.
use Rattle.std.specs.Prelude.{map}
use Rattle.board_orders.specs.declared.request.Request.{Request}
use Rattle.board_orders.specs.declared.request.Request.TheVariants as request
use Rattle.board_orders.specs.declared.request.Asked.{Asked as AskedRequest}
use Rattle.board_orders.specs.declared.request.Asked.TheVariants as asked
use Rattle.board_orders.specs.Orders.{BoardOrder, Asked}
use Rattle.board_orders.specs.Orders.BoardOrder.{tell, known, ask, boardsize, clear_board, komi, play, genmove, reg_genmove, analyse, loadsgf, undo, fixed_handicap, free_handicap, quit}
use Rattle.board_orders.specs.Orders.Asked.{something, unknown, misfit}

-- the order that a request stands for
abbrev pub order_of : Request → BoardOrder
order_of (request.Tell text) = tell text.now
order_of (request.Known word) = known word.now
order_of (request.Ask question) = ask question
order_of (request.BoardSize n) = boardsize n
order_of request.ClearBoard = clear_board
order_of (request.Komi halves) = komi halves
order_of (request.Play c w) = play c w
order_of (request.GenMove c) = genmove c
order_of (request.RegGenMove c) = reg_genmove c
order_of (request.Analyse x) = analyse x
order_of (request.LoadSgf file after) = loadsgf file.now after
order_of request.Undo = undo
order_of (request.FixedHandicap n) = fixed_handicap n
order_of (request.FreeHandicap words) = free_handicap (map (λ w. w.now) words.now)
order_of request.Quit = quit

-- what the words ask for, by the request that was read from them
abbrev pub asked_of : AskedRequest → Asked
asked_of (asked.Something request) = something (order_of request)
asked_of asked.Unknown = unknown
asked_of asked.Misfit = misfit
