-- What of an analysis has been written.
use Rattle.std.specs.Prelude.{ℕ, ℤ, ◌≡◌, ◌++◌, List, [], codes}
use Rattle.go_grid.specs.declared.grid.Colour.{Colour}
use Rattle.go_grid.specs.declared.grid.Colour.TheVariants.{Black, White}
use Rattle.go_grid.specs.Region.{Region}
use Rattle.whole_rules.specs.declared.states.Move.{Move}
use Rattle.whole_rules.specs.FirstWinningMove.{IsWinner}
use Rattle.whole_rules.specs.WholeGame.{Whole}
use Rattle.endgame_solver.specs.PlayLine.{IsLineFrom}
use Rattle.endgame_solver.specs.Thresholds.{IsThresholdFrom}
use Rattle.report.specs.Analysis.{AreStoneTexts, IsMoveText, IsStoneText, first_lines, opening_lines, stones_line}
use Rattle.report.specs.Komi.{komi_line}

-- behind the text stand the side to move, the komi and the winner
pub record HasOpening (s : Whole) (k : ℤ) (before now : List ℕ) : Type 0 where
  pub winner : Colour
  pub wins : IsWinner s winner
  pub text : now ≡ before ++ opening_lines s.side k winner

-- behind the text stand the thresholds of Black and of White moving first
pub record HasThresholds (s : Whole) (k : ℤ) (before now : List ℕ) : Type 0 where
  pub black : ℤ
  pub white : ℤ
  pub black_first : IsThresholdFrom s k Black [] black
  pub white_first : IsThresholdFrom s k White [] white
  pub text : now ≡ before ++ first_lines black white

-- behind the text stands what is said of a stone
pub record HasStone (name : ℕ → List ℕ) (s : Whole) (k : ℤ) (p : ℕ) (before now : List ℕ) : Type 0 where
  pub said : List ℕ
  pub is : IsStoneText name s k p said
  pub text : now ≡ before ++ said

-- behind the text stands what is said of the stones at the first n points
pub record HasStones (name : ℕ → List ℕ) (s : Whole) (k : ℤ) (n : ℕ) (before now : List ℕ) : Type 0 where
  pub said : List ℕ
  pub are : AreStoneTexts name s k n said
  pub text : now ≡ before ++ said

-- behind the text stands what is said of a move that is no stone
pub record HasMove (s : Whole) (m : Move) (label before now : List ℕ) : Type 0 where
  pub said : List ℕ
  pub is : IsMoveText s m label said
  pub text : now ≡ before ++ said

-- behind the text stands the threshold of the side to move
pub record HasThreshold (s : Whole) (k : ℤ) (before now : List ℕ) : Type 0 where
  pub threshold : ℤ
  pub mover_first : IsThresholdFrom s k s.side [] threshold
  pub text : now ≡ before ++ komi_line (codes "threshold") threshold

-- behind the text stands the line of play, whatever the komi
pub record HasLine (name : ℕ → List ℕ) (regions : List Region) (s : Whole) (before now : List ℕ) : Type 0 where
  pub stones : List ℕ
  pub line : (k : ℤ) → IsLineFrom regions s k stones
  pub text : now ≡ before ++ stones_line name s.side stones
