-- What holds of moves that a session generates.
use Rattle.go_grid.specs.Board.{DeclaresNothing, other}
use Rattle.go_grid.specs.Chain.{IsSettled}
use Rattle.go_grid.specs.declared.grid.Colour.{Colour}
use Rattle.whole_rules.specs.declared.states.Move.{Move}
use Rattle.whole_rules.specs.declared.states.Move.TheVariants.{Stone, Spend, Half}
use Rattle.whole_rules.specs.PlainRecursion.{MoverLoses, MoverWins}
use Rattle.whole_rules.specs.WholeGame.{IsMove, Leads, Whole}
use Rattle.endgame_solver.specs.Limits.{Limits}
use Rattle.board_orders.specs.declared.position.BoardMove.{BoardMove}
use Rattle.board_orders.specs.declared.position.Position.{Position}
use Rattle.board_session.specs.Generating.{Advice, AdvisesIn, MakesChosen, OpensLess, board_move, chosen, resigned, setup_of, unopened}
use Rattle.board_orders.specs.Positions.{MakesMove}
use Rattle.board_orders.specs.States.{BoardState, present}

-- the game that the state opens for the colour to move
abbrev pub OpensIn : Limits → BoardState → Colour → Whole → Type 0
OpensIn limits s c w = OpensLess limits (setup_of (present s) s.komi_halves c) (present s).passes w

-- from a game that the colour to move wins, the move that it is told leads to one that the other colour, whose turn it then is, loses
abbrev pub WinIsKept : Type 0
WinIsKept = (limits : Limits) (s : BoardState) (c : Colour) (m : Move) (w : Whole) → AdvisesIn limits s c (chosen m) → OpensIn limits s c w
    → MoverWins Whole Leads w → (t : Whole) × IsMove w m t × MoverLoses Whole Leads t

-- the move puts no stone
abbrev pub PutsNone : Move → Type 0
PutsNone (Stone p) = ⊥
PutsNone Spend = Unit {0}
PutsNone Half = Unit {0}

-- After a generated move that puts no stone the state opens, for the other colour, the very game to which the move leads.
abbrev pub GameGoesOn : Type 0
GameGoesOn = (limits : Limits) (s u : BoardState) (c : Colour) (m : Move) (w t : Whole) → PutsNone m → OpensIn limits s c w → IsMove w m t
    → MakesChosen c (board_move m) s u → OpensIn limits u (other c) t

-- two of a kind: moves, or that there is none, or that the position opens no game
abbrev pub AreOneKind : Advice → Advice → Type 0
AreOneKind (chosen m) (chosen n) = Unit {0}
AreOneKind resigned resigned = Unit {0}
AreOneKind (unopened v) (unopened w) = Unit {0}
AreOneKind _ _ = ⊥

-- a colour is told one kind of thing in a state
abbrev pub OneKindIsTold : Type 0
OneKindIsTold = (limits : Limits) (s : BoardState) (c : Colour) (a b : Advice) → AdvisesIn limits s c a → AdvisesIn limits s c b → AreOneKind a b

-- where no point is declared, a move leaves a settled board settled
abbrev pub BoardsStaySettled : Type 0
BoardsStaySettled = (c : Colour) (m : BoardMove) (a b : Position) → MakesMove c m a b → DeclaresNothing a.board → IsSettled a.board
    → DeclaresNothing b.board × IsSettled b.board
