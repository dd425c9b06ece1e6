-- What of a solution with cycles has been written.
use Rattle.std.specs.Prelude.{◌≡◌, ◌++◌, ℕ, List, Option}
use Rattle.go_grid.specs.declared.grid.Colour.{Colour}
use Rattle.whole_rules.specs.declared.states.Move.{Move}
use Rattle.whole_rules.specs.FirstWinningMove.{IsFirstWinning}
use Rattle.endgame_solver.specs.Solved.{Solved}
use Rattle.cycle_solver.specs.Winner.{TellsCaptures, TellsWinner}
use Rattle.cycle_report.specs.CycleSolution.{cycle_outcome_text}

-- behind the text stand the winner, the winner's captures and the first winning move of the game's state
pub record HasCycleOutcome (game : Solved) (before now : List ℕ) : Type 0 where
  pub winner : Option Colour
  pub captures : Option ℕ
  pub move : Option Move
  pub wins : TellsWinner game.state winner
  pub least : TellsCaptures game.regions game.state captures
  pub first : IsFirstWinning game.state move
  pub text : now ≡ before ++ cycle_outcome_text game.state.board.columns winner captures move
