-- What contracts see of requests.
use Rattle.gtp_engine.specs.declared.request.Request.{Request}
use Rattle.gtp_engine.specs.declared.request.Request.TheVariants as request
use Rattle.gtp_engine.specs.declared.request.Asked.{Asked as AskedRequest}
use Rattle.gtp_engine.specs.declared.request.Asked.TheVariants as asked
use Rattle.gtp_engine.specs.Request.{Order, Asked}
use Rattle.gtp_engine.specs.Request.Order.{protocol_version, name, version, known_command, list_commands, boardsize, clear_board, komi, play, genmove, loadsgf, quit}
use Rattle.gtp_engine.specs.Request.Asked.{something, unknown, misfit}

-- the order that a request stands for
abbrev pub order_of : Request → Order
order_of request.ProtocolVersion = protocol_version
order_of request.Name = name
order_of request.Version = version
order_of (request.KnownCommand word) = known_command word.now
order_of request.ListCommands = list_commands
order_of (request.BoardSize n) = boardsize n
order_of request.ClearBoard = clear_board
order_of (request.Komi halves) = komi halves
order_of (request.Play c wanted) = play c wanted
order_of (request.GenMove c) = genmove c
order_of (request.LoadSgf file after) = loadsgf file.now after
order_of request.Quit = quit

-- what the words ask for, by the request that was read from them
abbrev pub asked_of : AskedRequest → Asked
asked_of (asked.Something request) = something (order_of request)
asked_of asked.Unknown = unknown
asked_of asked.Misfit = misfit
