-- What contracts see of an advice, and what the parts of one come to.
use Rattle.std.specs.Prelude.{◌≡◌, ℕ, codes, string_bytes}
use Rattle.go_grid.specs.declared.grid.Colour.{Colour}
use Rattle.whole_rules.specs.Moves.{IsMoveOnBoard}
use Rattle.whole_rules.specs.WholeGame.{Whole}
use Rattle.endgame_solver.specs.Solved.{Chooses, HasMove}
use Rattle.board_session.specs.declared.advice.Advice.{Advice as Told}
use Rattle.board_session.specs.declared.advice.Advice.TheVariants as told
use Rattle.board_orders.specs.declared.position.BoardMove.{BoardMove}
use Rattle.board_orders.specs.declared.position.Position.{Position}
use Rattle.board_session.specs.Generating.{Advice, PayFor, after_passes, board_move, chosen, komi_after, resigned, unopened}
use Rattle.board_orders.specs.Kept.{IsModest}
use Rattle.board_orders.specs.Positions.{MakesMove}
use Rattle.board_orders.specs.States.{BoardState, present}
use Rattle.board_orders.specs.Tallies.{Tally}

-- the advice that was made
abbrev pub advice_of : Told → Advice
advice_of (told.Chosen m) = chosen m
advice_of told.Resigned = resigned
advice_of (told.Unopened words) = unopened (string_bytes words)

-- what the colour to move is told where its game begins in the state, but for the passes
abbrev pub IsTold : Tally → Whole → Advice → Type 0
IsTold passes start (chosen m) = PayFor passes start.purses × Chooses (after_passes passes start) m
IsTold passes start resigned = PayFor passes start.purses × ¬ HasMove (after_passes passes start)
IsTold passes start (unopened words) = ¬ PayFor passes start.purses × (words ≡ codes "purse")

-- the move of an advice, if it is one, is on a board of the size
abbrev pub IsAdviceOnBoard : ℕ → ℕ → Advice → Type 0
IsAdviceOnBoard columns rows (chosen m) = IsMoveOnBoard columns rows m
IsAdviceOnBoard columns rows a = Unit {0}

-- the move of the colour may be made
abbrev pub MayMake : Colour → BoardMove → BoardState → Type 0
MayMake c m s = (b : Position) × MakesMove c m (present s) b

-- the move that the colour is told, if it is told one, may be made, and leaves a small komi
abbrev pub MayFollow : Colour → Advice → BoardState → Type 0
MayFollow c (chosen m) s = MayMake c (board_move m) s × IsModest (komi_after c (board_move m) s.komi_halves)
MayFollow c a s = Unit {0}
