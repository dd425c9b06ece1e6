-- Moves that a session generates: the game that a position opens, and the engine's move in it.
use Rattle.std.specs.Prelude.{◌≡◌, ◌⊎◌, ◌≤◌, ◌++◌, ℕ, ℤ, pos, ◌+ℤ◌, ◌-ℤ◌, List, codes, Err, false}
use Rattle.go_grid.specs.Board.{Board}
use Rattle.go_grid.specs.Chain.{IsFirstUnsettled, IsSettled}
use Rattle.go_grid.specs.declared.grid.Colour.{Colour}
use Rattle.go_grid.specs.declared.grid.Colour.TheVariants.{Black, White}
use Rattle.gtp_words.specs.Vertices.{vertex_text}
use Rattle.go_play.specs.Setup.{Setup}
use Rattle.whole_rules.specs.declared.money.Purses.{Purses}
use Rattle.whole_rules.specs.declared.states.Move.{Move}
use Rattle.whole_rules.specs.declared.states.Move.TheVariants as move
use Rattle.whole_rules.specs.Purses.{taken_out}
use Rattle.whole_rules.specs.WholeGame.{Whole}
use Rattle.endgame_solver.specs.declared.faults.SolveError.{SolveError}
use Rattle.endgame_solver.specs.Limits.{Limits}
use Rattle.endgame_solver.specs.Solved.{Begun, Chooses, HasMove, IsPlayable}
use Rattle.fault_words.specs.FaultWords.{AreFaultWords}
use Rattle.board_orders.specs.declared.position.BoardMove.{BoardMove}
use Rattle.board_orders.specs.declared.position.BoardMove.TheVariants.{Stone, Pass, Half}
use Rattle.board_orders.specs.declared.position.Position.{Position}
use Rattle.board_orders.specs.Positions.{MakesMove}
use Rattle.board_orders.specs.States.{BoardState, present, with_move}
use Rattle.board_orders.specs.Tallies.{Tally}

-- the position with the komi and the colour to move, as one that opens a game
abbrev pub setup_of : Position → ℤ → Colour → Setup
setup_of a halves c = record {
  board = a.board;
  black_prisoners = a.prisoners.black;
  white_prisoners = a.prisoners.white;
  komi_halves = halves;
  side = c;
}

-- each purse holds a point for each pass of its colour
pub record PayFor (passes : Tally) (m : Purses) : Type 0 where
  pub black : passes.black ≤ m.black
  pub white : passes.white ≤ m.white

-- the purses, each less the passes of its colour
abbrev pub less_passes : Tally → Purses → Purses
less_passes passes m = taken_out White passes.white (taken_out Black passes.black m)

-- the state, in which each pass has cost its colour a point
abbrev pub after_passes : Tally → Whole → Whole
after_passes passes start = record start { purses = less_passes passes start.purses }

-- the game that the settled position opens without a tax, in which each pass has cost its colour a point
pub record OpensLess (limits : Limits) (setup : Setup) (passes : Tally) (w : Whole) : Type 0 where
  pub settled : IsSettled setup.board
  pub start : Whole
  pub playable : IsPlayable limits false setup start
  pub pay : PayFor passes start.purses
  pub less : w ≡ after_passes passes start

-- the words on a board that isn't settled, by its first point that is not
abbrev pub unsettled_words : Board → ℕ → List ℕ
unsettled_words g p = codes "no liberty at " ++ vertex_text g.columns g.rows p

-- Why the position opens no game, in words: it isn't settled, or its regions have a fault, or a purse doesn't pay for the passes of
-- its colour.
abbrev pub OpensNone : Limits → Setup → Tally → List ℕ → Type 0
OpensNone limits setup passes words =
    ((p : ℕ) × IsFirstUnsettled setup.board p × (words ≡ unsettled_words setup.board p))
    ⊎ (IsSettled setup.board
    × (((fault : SolveError) × Begun setup false limits (Err fault) × AreFaultWords (vertex_text setup.board.columns setup.board.rows) limits fault words)
    ⊎ ((start : Whole) × IsPlayable limits false setup start × ¬ PayFor passes start.purses × (words ≡ codes "purse"))))

-- what the colour to move is told: a move, or that there is none, or why the position opens no game
pub data Advice : Type 0 where
  chosen : Move → Advice
  resigned : Advice
  unopened : List ℕ → Advice

-- what the colour to move is told: the engine's move in the game that the position opens
abbrev pub Advises : Limits → Setup → Tally → Advice → Type 0
Advises limits setup passes (chosen m) = (w : Whole) × OpensLess limits setup passes w × Chooses w m
Advises limits setup passes resigned = (w : Whole) × OpensLess limits setup passes w × ¬ HasMove w
Advises limits setup passes (unopened words) = OpensNone limits setup passes words

-- the move of a session that stands for a move of a game
abbrev pub board_move : Move → BoardMove
board_move (move.Stone p) = Stone p
board_move move.Spend = Pass
board_move move.Half = Half

-- The komi after a colour's move on the half-point: it goes away where it is the colour's own, and else it becomes a whole point of the
-- other colour.
abbrev pub komi_halved : Colour → ℤ → ℤ
komi_halved Black k = k +ℤ pos 1
komi_halved White k = k -ℤ pos 1

-- the komi after a colour's move
abbrev pub komi_after : Colour → BoardMove → ℤ → ℤ
komi_after c Half k = komi_halved c k
komi_after c m k = k

-- the move of the colour is made, and the komi is that after it
abbrev pub MakesChosen : Colour → BoardMove → BoardState → BoardState → Type 0
MakesChosen c m s u = (b : Position) × MakesMove c m (present s) b × (u ≡ record (with_move s c m b) { komi_halves = komi_after c m s.komi_halves })

-- the move that the colour is told is made, if it is told one
abbrev pub Follows : Colour → Advice → BoardState → BoardState → Type 0
Follows c (chosen m) s u = MakesChosen c (board_move m) s u
Follows c resigned s u = u ≡ s
Follows c (unopened words) s u = u ≡ s

-- what the colour is told in the state
abbrev pub AdvisesIn : Limits → BoardState → Colour → Advice → Type 0
AdvisesIn limits s c a = Advises limits (setup_of (present s) s.komi_halves c) (present s).passes a
