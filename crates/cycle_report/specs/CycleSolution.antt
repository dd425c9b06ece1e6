-- The text of `solve` where kos can arise.
use Rattle.std.specs.Prelude.{◌≡◌, ◌++◌, ℕ, List, codes, Option, Some, None}
use Rattle.go_grid.specs.declared.grid.Colour.{Colour}
use Rattle.go_grid.specs.Region.{Region}
use Rattle.whole_rules.specs.declared.states.Move.{Move}
use Rattle.whole_rules.specs.FirstWinningMove.{IsFirstWinning}
use Rattle.whole_rules.specs.WholeGame.{Whole}
use Rattle.board_words.specs.Words.{winner_line, word_line}
use Rattle.endgame_solver.specs.Solved.{Solved}
use Rattle.cycle_solver.specs.Winner.{TellsCaptures, TellsWinner}
use Rattle.report.specs.Solution.{AreNumbersOfPositions, count_line, move_line, regions_text, state_lines}

-- the line of the winner, `none` where there is none
abbrev pub winner_or_none : Option Colour → List ℕ
winner_or_none (Some c) = winner_line c
winner_or_none None = word_line (codes "winner") (codes "none")

-- the line of the winner's captures, `none` where there is no winner
abbrev pub captures_line : Option ℕ → List ℕ
captures_line (Some n) = count_line (codes "captures") n
captures_line None = word_line (codes "captures") (codes "none")

-- what is said of a state's winner: who it is, with how many captures that return, and the first winning move
abbrev pub cycle_outcome_text : ℕ → Option Colour → Option ℕ → Option Move → List ℕ
cycle_outcome_text columns winner captures move = winner_or_none winner ++ (captures_line captures ++ move_line columns move)

-- the text of `solve` for a state, its regions of play with the numbers of their positions, its winner, the winner's captures
-- and the first winning move
abbrev pub cycle_solve_text : Whole → List Region → List ℕ → Option Colour → Option ℕ → Option Move → List ℕ
cycle_solve_text s regions numbers winner captures move = state_lines s
    ++ (regions_text s.board.columns regions numbers ++ cycle_outcome_text s.board.columns winner captures move)

-- the text of `solve` for a game with cycles
pub record IsCycleSolveText (game : Solved) (text : List ℕ) : Type 0 where
  pub numbers : List ℕ
  pub winner : Option Colour
  pub captures : Option ℕ
  pub move : Option Move
  pub counted : AreNumbersOfPositions game.regions numbers
  pub wins : TellsWinner game.state winner
  pub least : TellsCaptures game.regions game.state captures
  pub first : IsFirstWinning game.state move
  pub is : text ≡ cycle_solve_text game.state game.regions numbers winner captures move
