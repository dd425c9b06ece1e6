-- What of a trial has been written.
use Rattle.std.specs.Prelude.{◌≡◌, ◌++◌, ℕ, List, sum}
use Rattle.go_grid.specs.Region.{Region}
use Rattle.endgame_solver.specs.Solved.{IsNumberOfShapes}
use Rattle.report.specs.Solution.{AreNumbersOfPositions}
use Rattle.report.specs.Trial.{counts_text}

-- so many positions do the regions have together
abbrev pub AreTogether : List Region → ℕ → Type 0
AreTogether regions total = (numbers : List ℕ) × AreNumbersOfPositions regions numbers × (total ≡ sum numbers)

-- behind the text stand the counts
pub record HasCounts (number : ℕ) (regions : List Region) (before now : List ℕ) : Type 0 where
  pub numbers : List ℕ
  pub shapes : ℕ
  pub counted : AreNumbersOfPositions regions numbers
  pub of_shapes : IsNumberOfShapes regions shapes
  pub text : now ≡ before ++ counts_text number regions numbers shapes
