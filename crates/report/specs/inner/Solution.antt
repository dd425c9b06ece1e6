-- What of a solution has been written.
use Rattle.std.specs.Prelude.{◌≡◌, ◌++◌, ℕ, List, Option}
use Rattle.go_grid.specs.declared.grid.Colour.{Colour}
use Rattle.whole_rules.specs.declared.states.Move.{Move}
use Rattle.whole_rules.specs.FirstWinningMove.{IsFirstWinning, IsWinner}
use Rattle.whole_rules.specs.WholeGame.{Whole}
use Rattle.board_words.specs.Words.{winner_line}
use Rattle.report.specs.Solution.{move_line}

-- behind the text stand the winner and the first winning move of the state
pub record HasOutcome (s : Whole) (before now : List ℕ) : Type 0 where
  pub winner : Colour
  pub move : Option Move
  pub wins : IsWinner s winner
  pub first : IsFirstWinning s move
  pub text : now ≡ before ++ (winner_line winner ++ move_line s.board.columns move)
