-- The solution of a position: the winner and the first winning move of its opening.
use Rattle.std.specs.Prelude.{Bool, Option, ◌≡◌, ℕ, List}
use Rattle.go_grid.specs.declared.grid.Colour.{Colour}
use Rattle.go_play.specs.Setup.{Setup}
use Rattle.whole_rules.specs.declared.states.Move.{Move}
use Rattle.whole_rules.specs.WholeGame.{Whole}
use Rattle.endgame_solver.specs.Solved.{OpensAs}
use Rattle.whole_rules.specs.FirstWinningMove.{IsFirstWinning, IsWinner}
use Rattle.go_grid.specs.Region.{Region}
use Rattle.region_cut.specs.Cut.{AreRegionsOfPlay}
use Rattle.endgame_solver.specs.Faults.{AreSound}
use Rattle.endgame_questions.specs.declared.terms.GameTerms.{GameTerms}
use Rattle.report.specs.Solution.{AreNumbersOfPositions, solve_text}

-- The state opens the position, the colour is its winner, and the move is its first winning one, if there is one.
pub record IsSolution (setup : Setup) (tax : Bool) (s : Whole) (winner : Colour) (move : Option Move) : Type 0 where
  pub opening : OpensAs setup tax s
  pub wins : IsWinner s winner
  pub first : IsFirstWinning s move

-- the regions of play of a position, all sound within the limits, the number of positions of each, and the solution, in its text
pub record IsSolved (terms : GameTerms) (setup : Setup) (text : List ℕ) : Type 0 where
  pub regions : List Region
  pub numbers : List ℕ
  pub state : Whole
  pub winner : Colour
  pub move : Option Move
  pub are_regions : AreRegionsOfPlay setup.board regions
  pub sound : AreSound terms.limits regions
  pub counted : AreNumbersOfPositions regions numbers
  pub solution : IsSolution setup terms.tax state winner move
  pub is : text ≡ solve_text state regions numbers winner move
