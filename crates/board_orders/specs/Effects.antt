-- What each order that asks for neither a file nor the solver does to the state, and what is said.
use Rattle.std.specs.Prelude.{◌≡◌, ◌≢◌, ◌⊎◌, ◌≤◌, ◌<◌, ◌++◌, ℕ, List, [], length, codes, decimal, Option, Some, None}
use Rattle.board_words.specs.Komi.{komi_word}
use Rattle.go_grid.specs.Board.{Board}
use Rattle.go_grid.specs.declared.grid.Colour.{Colour}
use Rattle.gtp_words.specs.Replies.{signed_text}
use Rattle.board_orders.specs.declared.command.Command.{Command}
use Rattle.board_orders.specs.declared.position.BoardMove.{BoardMove}
use Rattle.board_orders.specs.declared.position.Position.{Position}
use Rattle.board_orders.specs.declared.question.Question.{Question}
use Rattle.board_orders.specs.declared.question.Question.TheVariants as question
use Rattle.board_orders.specs.declared.refusal.Refusal.{Refusal}
use Rattle.board_orders.specs.declared.refusal.Refusal.TheVariants.{UnknownCommand, SyntaxError, UnacceptableSize, IllegalMove, CannotLoadFile, CannotUndo, BoardNotEmpty, BadNumberOfStones, BadVertexList}
use Rattle.board_orders.specs.Handicaps.{CannotPut, HasPlaces, IsBare, IsSomeAstray, NamePoints, PutsStones, fixed_points}
use Rattle.board_orders.specs.Orders.{BoardOrder, command_word}
use Rattle.board_orders.specs.Orders.BoardOrder.{tell, known, ask, boardsize, clear_board, komi, play, genmove, reg_genmove, analyse, loadsgf, undo, fixed_handicap, free_handicap, quit}
use Rattle.board_orders.specs.Positions.{IsIllegal, MakesMove, move_for}
use Rattle.board_orders.specs.States.{BoardState, IsBeforeLast, fresh, present, with_move, with_stones}
use Rattle.board_orders.specs.Tallies.{number_of}
use Rattle.board_orders.specs.Texts.{history_text, position_text, stones_below, vertices_text}

-- what is said: a text, or why the order is refused, or in words why a position opens no game, or why it has no score
pub data Said : Type 0 where
  done : List ℕ → Said
  refused : Refusal → Said
  unsolved : List ℕ → Said
  unscored : List ℕ → Said

-- the text of a refusal
abbrev pub refusal_text : Refusal → List ℕ
refusal_text UnknownCommand = codes "unknown command"
refusal_text SyntaxError = codes "syntax error"
refusal_text UnacceptableSize = codes "unacceptable size"
refusal_text IllegalMove = codes "illegal move"
refusal_text CannotLoadFile = codes "cannot load file"
refusal_text CannotUndo = codes "cannot undo"
refusal_text BoardNotEmpty = codes "board not empty"
refusal_text BadNumberOfStones = codes "invalid number of stones"
refusal_text BadVertexList = codes "bad vertex list"

-- the reply
abbrev pub reply_text : List ℕ → Said → List ℕ
reply_text id (done text) = signed_text (codes "=") id text
reply_text id (refused why) = signed_text (codes "?") id (refusal_text why)
reply_text id (unsolved words) = signed_text (codes "?") id (codes "cannot solve: " ++ words)
reply_text id (unscored words) = signed_text (codes "?") id (codes "cannot score: " ++ words)

-- the text of a part of the state
abbrev pub answer_text : Question → BoardState → List ℕ
answer_text question.Size s = decimal (present s).board.columns
answer_text question.Komi s = komi_word s.komi_halves
answer_text question.Handicap s = decimal s.handicap
answer_text question.Board s = position_text (present s) s.komi_halves
answer_text question.History s = history_text s.setup.board.columns s.setup.board.rows s.moves
answer_text (question.Stones c) s = stones_below (present s).board c (length (present s).board.cells)
answer_text (question.Captures c) s = decimal (number_of c (present s).prisoners)

-- the order is refused for this reason, and the state is that of before
abbrev pub RefusesWith : Refusal → BoardState → Said → BoardState → Type 0
RefusesWith why s said u = (said ≡ refused why) × (u ≡ s)

-- the text says whether a word is the name of a command
abbrev pub SaysWhetherKnown : List ℕ → List ℕ → Type 0
SaysWhetherKnown word text = (((command : Command) × (word ≡ command_word command)) × (text ≡ codes "true"))
    ⊎ (((command : Command) → word ≢ command_word command) × (text ≡ codes "false"))

-- a size from 1 to 25 gives an empty board with the present komi, and another is refused
abbrev pub TakesSize : ℕ → BoardState → Said → BoardState → Type 0
TakesSize n s said u = ((1 ≤ n) × (n ≤ 25) × (said ≡ done []) × (u ≡ fresh n n s.komi_halves))
    ⊎ (((n < 1) ⊎ (25 < n)) × RefusesWith UnacceptableSize s said u)

-- the move is made on the board, or it is refused
abbrev pub PlaysMove : Colour → Option BoardMove → BoardState → Said → BoardState → Type 0
PlaysMove c None s said u = RefusesWith IllegalMove s said u
PlaysMove c (Some m) s said u = ((b : Position) × MakesMove c m (present s) b × (said ≡ done []) × (u ≡ with_move s c m b))
    ⊎ (IsIllegal c m (present s) × RefusesWith IllegalMove s said u)

-- the state before the last move is taken up again, where there was a move
abbrev pub TakesBack : BoardState → Said → BoardState → Type 0
TakesBack s said u = (IsBeforeLast s u × (said ≡ done [])) ⊎ ((s.moves ≡ []) × RefusesWith CannotUndo s said u)

-- the stones are placed on the empty board and the text is said, or one of them may not be placed
abbrev pub SetsOut : List ℕ → Refusal → List ℕ → BoardState → Said → BoardState → Type 0
SetsOut text why points s said u = ((g : Board) × PutsStones (present s).board points g × (said ≡ done text) × (u ≡ with_stones s (length points) g))
    ⊎ (CannotPut (present s).board points × RefusesWith why s said u)

-- so many stones are placed at their points and the points are said, where the board is empty and has room for them
abbrev pub TakesFixed : ℕ → BoardState → Said → BoardState → Type 0
TakesFixed n s said u =
    let g = (present s).board in
    ((¬ IsBare g) × RefusesWith BoardNotEmpty s said u)
    ⊎ ((IsBare g × (¬ HasPlaces g.columns g.rows n) × RefusesWith BadNumberOfStones s said u)
    ⊎ (IsBare g × HasPlaces g.columns g.rows n
    × SetsOut (vertices_text g.columns g.rows (fixed_points g.columns g.rows n)) BadNumberOfStones (fixed_points g.columns g.rows n) s said u))

-- stones are placed at the points that the words name, where the board is empty
abbrev pub TakesFree : List (List ℕ) → BoardState → Said → BoardState → Type 0
TakesFree words s said u =
    let g = (present s).board in
    ((¬ IsBare g) × RefusesWith BoardNotEmpty s said u)
    ⊎ ((IsBare g × IsSomeAstray g.columns g.rows words × RefusesWith BadVertexList s said u)
    ⊎ (IsBare g × ((points : List ℕ) × NamePoints g.columns g.rows words points × SetsOut [] BadVertexList points s said u)))

-- what an order that asks for neither a file nor the solver does to the state, and what is said
abbrev pub Does : BoardOrder → BoardState → Said → BoardState → Type 0
Does (tell text) s said u = (said ≡ done text) × (u ≡ s)
Does (known word) s said u = (text : List ℕ) × SaysWhetherKnown word text × (said ≡ done text) × (u ≡ s)
Does (ask question) s said u = (said ≡ done (answer_text question s)) × (u ≡ s)
Does (boardsize n) s said u = TakesSize n s said u
Does clear_board s said u = (said ≡ done []) × (u ≡ fresh (present s).board.columns (present s).board.rows s.komi_halves)
Does (komi halves) s said u = (said ≡ done []) × (u ≡ record s { komi_halves = halves })
Does (play c w) s said u = PlaysMove c (move_for (present s).board.columns (present s).board.rows w) s said u
Does undo s said u = TakesBack s said u
Does (fixed_handicap n) s said u = TakesFixed n s said u
Does (free_handicap words) s said u = TakesFree words s said u
Does quit s said u = (said ≡ done []) × (u ≡ s)
Does (loadsgf file after) s said u = ⊥
Does (genmove c) s said u = ⊥
Does (reg_genmove c) s said u = ⊥
Does (analyse x) s said u = ⊥
