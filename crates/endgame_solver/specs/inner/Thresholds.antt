-- What the search for a threshold keeps.
use Rattle.std.specs.Prelude.{ℕ, ◌+◌, ◌<◌, ◌≤◌, ◌^◌, ◌↔◌, List, length, slice_index, ℤ, pos, unsigned_abs, ◌+ℤ◌, ◌-ℤ◌, ◌*ℤ◌, ◌<ℤ◌, ◌≤ℤ◌}
use Rattle.go_grid.specs.declared.grid.Colour.{Colour}
use Rattle.whole_rules.specs.OpeningWith.{Ground, OpensWith}
use Rattle.whole_rules.specs.Threshold.{IsThresholdAfter}
use Rattle.whole_rules.specs.WholeGame.{Whole}
use Rattle.short_games.specs.Tree.{Tree, tree_at}
use Rattle.short_games.specs.Order.{◌≤ᵍ◌}
use Rattle.short_games.specs.Number.{num}
use Rattle.short_games.specs.Sum.{◌+ᵍ◌}
use Rattle.endgame_solver.specs.declared.thresholds.StopSums.{StopSums}

-- the threshold after the stones is so many halves of a point above the komi with which the state opens a ground
abbrev pub IsMargin : Whole → Colour → List ℕ → ℤ → Type 0
IsMargin s c ps n = (x : Ground) (k : ℤ) → OpensWith x k s.side s → IsThresholdAfter x c ps (k +ℤ n)

-- the game is at least each number below l parts of 2 ^ -60
abbrev pub IsOver : Tree → ℤ → Type 0
IsOver G l = (d : ℕ) (y : ℤ) → pos 0 <ℤ y → num (d + 60) ((l *ℤ pos (2 ^ d)) -ℤ y) ≤ᵍ G

-- the game is at most each number above l parts of 2 ^ -60
abbrev pub IsUnder : Tree → ℤ → Type 0
IsUnder G l = (d : ℕ) (y : ℤ) → pos 0 <ℤ y → G ≤ᵍ num (d + 60) ((l *ℤ pos (2 ^ d)) +ℤ y)

-- the game lies between what its right stops and its left stops add up to, neither of which has a size of more parts than `most`
pub record LiesBetween (G : Tree) (most : ℕ) (stops : StopSums) : Type 0 where
  pub over : IsOver G stops.right
  pub under : IsUnder G stops.left
  pub right_small : unsigned_abs stops.right ≤ most
  pub left_small : unsigned_abs stops.left ≤ most
