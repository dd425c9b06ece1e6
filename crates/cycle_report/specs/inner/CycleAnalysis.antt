-- What of an analysis with cycles has been written.
use Rattle.std.specs.Prelude.{ℕ, ℤ, ◌≡◌, ◌++◌, List, [], Option}
use Rattle.go_grid.specs.declared.grid.Colour.{Colour}
use Rattle.go_grid.specs.declared.grid.Colour.TheVariants.{Black, White}
use Rattle.whole_rules.specs.declared.states.Move.{Move}
use Rattle.whole_rules.specs.WholeGame.{Whole}
use Rattle.cycle_solver.specs.declared.thresholds.Thresholds.{Thresholds}
use Rattle.cycle_solver.specs.Thresholds.{AreThresholdsFrom}
use Rattle.cycle_solver.specs.Winner.{TellsWinner}
use Rattle.cycle_report.specs.CycleAnalysis.{AreCycleStoneTexts, IsCycleMoveText, IsCycleStoneText, cycle_first_lines, cycle_opening_lines}

-- behind the text stand the side to move, the komi and the winner
pub record HasCycleOpening (s : Whole) (k : ℤ) (before now : List ℕ) : Type 0 where
  pub winner : Option Colour
  pub wins : TellsWinner s winner
  pub text : now ≡ before ++ cycle_opening_lines s.side k winner

-- behind the text stand the thresholds of Black and of White moving first
pub record HasCycleThresholds (s : Whole) (k : ℤ) (before now : List ℕ) : Type 0 where
  pub black : Thresholds
  pub white : Thresholds
  pub black_first : AreThresholdsFrom s k Black [] black
  pub white_first : AreThresholdsFrom s k White [] white
  pub text : now ≡ before ++ cycle_first_lines black white

-- behind the text stands what is said of a stone
pub record HasCycleStone (name : ℕ → List ℕ) (s : Whole) (k : ℤ) (p : ℕ) (before now : List ℕ) : Type 0 where
  pub said : List ℕ
  pub is : IsCycleStoneText name s k p said
  pub text : now ≡ before ++ said

-- behind the text stands what is said of the stones at the first n points
pub record HasCycleStones (name : ℕ → List ℕ) (s : Whole) (k : ℤ) (n : ℕ) (before now : List ℕ) : Type 0 where
  pub said : List ℕ
  pub are : AreCycleStoneTexts name s k n said
  pub text : now ≡ before ++ said

-- behind the text stands what is said of a move that is no stone
pub record HasCycleMove (s : Whole) (m : Move) (label before now : List ℕ) : Type 0 where
  pub said : List ℕ
  pub is : IsCycleMoveText s m label said
  pub text : now ≡ before ++ said
