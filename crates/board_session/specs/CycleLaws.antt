-- What holds of moves that a session generates where kos can arise.
use Rattle.std.specs.Prelude.{true}
use Rattle.go_grid.specs.Board.{other}
use Rattle.go_grid.specs.declared.grid.Colour.{Colour}
use Rattle.whole_rules.specs.declared.states.Move.{Move}
use Rattle.whole_rules.specs.PlainRecursion.{MoverLoses, MoverWins}
use Rattle.whole_rules.specs.WholeGame.{IsMove, Leads, Whole}
use Rattle.endgame_solver.specs.Limits.{Limits}
use Rattle.board_session.specs.Cycles.{OpensWithCycles, TellsIn}
use Rattle.board_session.specs.GeneratedLaws.{AreOneKind, PutsNone}
use Rattle.board_session.specs.Generating.{Advice, MakesChosen, board_move, chosen, setup_of}
use Rattle.board_orders.specs.States.{BoardState, present}

-- the game that the state opens for the colour to move, where kos can arise
abbrev pub OpensKosIn : Limits → BoardState → Colour → Whole → Type 0
OpensKosIn limits s c w = OpensWithCycles limits (setup_of (present s) s.komi_halves c) (present s).passes w

-- from a game that the colour to move wins, the move that it is told leads to one that the other colour, whose turn it then is, loses
abbrev pub WinIsKeptWithCycles : Type 0
WinIsKeptWithCycles = (limits : Limits) (s : BoardState) (c : Colour) (m : Move) (w : Whole) → TellsIn true limits s c (chosen m) → OpensKosIn limits s c w
    → MoverWins Whole Leads w → (t : Whole) × IsMove w m t × MoverLoses Whole Leads t

-- After a generated move that puts no stone the state opens, for the other colour, the very game to which the move leads.
abbrev pub GameGoesOnWithCycles : Type 0
GameGoesOnWithCycles = (limits : Limits) (s u : BoardState) (c : Colour) (m : Move) (w t : Whole) → PutsNone m → OpensKosIn limits s c w → IsMove w m t
    → MakesChosen c (board_move m) s u → OpensKosIn limits u (other c) t

-- a colour is told one kind of thing in a state
abbrev pub OneKindIsToldWithCycles : Type 0
OneKindIsToldWithCycles = (limits : Limits) (s : BoardState) (c : Colour) (a b : Advice) → TellsIn true limits s c a → TellsIn true limits s c b → AreOneKind a b
