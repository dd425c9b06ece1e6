-- What of the values where kos can arise has been written.
use Rattle.std.specs.Prelude.{◌≡◌, ◌++◌, ◌⊎◌, ℕ, List}
use Rattle.go_grid.specs.Region.{Region}
use Rattle.short_games.specs.Tree.{Tree, tree_at}
use Rattle.cycle_solver.specs.declared.cycle_game.CycleReport.{CycleReport}
use Rattle.game_lines.specs.Showings.{IsUnshown}
use Rattle.report.specs.Solution.{solved_line}
use Rattle.cycle_report.specs.CycleValues.{AreLinesOf, AreLinesOfBoth, AreLinesOfEach}

-- behind the text stand the lines on a game
pub record HasLinesOf (label : List ℕ) (G : Tree) (before now : List ℕ) : Type 0 where
  pub said : List ℕ
  pub are : AreLinesOf label G said
  pub text : now ≡ before ++ said

-- behind the text stand the lines on a lower and an upper value
pub record HasLinesOfBoth (low high : Tree) (before now : List ℕ) : Type 0 where
  pub said : List ℕ
  pub are : AreLinesOfBoth low high said
  pub text : now ≡ before ++ said

-- behind the text stand the lines of the region with this report
pub record HasReport (columns : ℕ) (Ts : List Tree) (report : CycleReport) (before now : List ℕ) : Type 0 where
  pub said : List ℕ
  pub are : AreLinesOfBoth (tree_at Ts report.low) (tree_at Ts report.high) said
  pub text : now ≡ before ++ (solved_line columns report.lowest report.points report.positions ++ said)

-- behind the text stand the lines of the regions
pub record HasLinesOfEach (columns : ℕ) (regions : List Region) (before now : List ℕ) : Type 0 where
  pub said : List ℕ
  pub are : AreLinesOfEach columns regions said
  pub text : now ≡ before ++ said

-- one of the two values of the report can't be shown
abbrev pub AreUnshown : List Tree → CycleReport → Type 0
AreUnshown Ts report = IsUnshown (tree_at Ts report.low) ⊎ IsUnshown (tree_at Ts report.high)
