-- The text of `trial`.
use Rattle.std.specs.Prelude.{◌≡◌, ◌++◌, ℕ, List, length, sum, codes, Option}
use Rattle.go_grid.specs.declared.grid.Colour.{Colour}
use Rattle.go_grid.specs.Region.{Region}
use Rattle.whole_rules.specs.declared.states.Move.{Move}
use Rattle.whole_rules.specs.FirstWinningMove.{IsFirstWinning, IsWinner}
use Rattle.endgame_solver.specs.Solved.{Solved, IsNumberOfShapes}
use Rattle.report.specs.Solution.{AreNumbersOfPositions, count_line, move_line}
use Rattle.board_words.specs.Words.{winner_line}

-- the number, how many regions there are, how many positions they have together, and of how many different shapes they are
abbrev pub counts_text : ℕ → List Region → List ℕ → ℕ → List ℕ
counts_text number regions numbers shapes =
    count_line (codes "trial") number ++ (count_line (codes "regions") (length regions) ++ (count_line (codes "positions") (sum numbers)
    ++ count_line (codes "shapes") shapes))

-- the text of `trial` for a number and a solved game: its counts, its winner and its first winning move
pub record IsTrialText (number : ℕ) (game : Solved) (text : List ℕ) : Type 0 where
  pub numbers : List ℕ
  pub shapes : ℕ
  pub winner : Colour
  pub move : Option Move
  pub counted : AreNumbersOfPositions game.regions numbers
  pub of_shapes : IsNumberOfShapes game.regions shapes
  pub wins : IsWinner game.state winner
  pub first : IsFirstWinning game.state move
  pub is : text ≡ counts_text number game.regions numbers shapes ++ (winner_line winner ++ move_line game.state.board.columns move)
