-- What the search for the next stone of a line keeps.
use Rattle.std.specs.Prelude.{ℕ, ℤ, pos, ◌≤◌, ◌^◌, ◌+ℤ◌, ◌↔◌, List, [], ◌∷◌, ◌++◌, length, Bool, IsTrue, Option, Some, None}
use Rattle.go_grid.specs.declared.grid.Colour.{Colour}
use Rattle.go_grid.specs.declared.grid.Colour.TheVariants.{Black, White}
use Rattle.go_grid.specs.Region.{Region}
use Rattle.whole_rules.specs.OpeningWith.{Ground, OpensWith}
use Rattle.whole_rules.specs.Threshold.{IsThresholdAfter, stones}
use Rattle.whole_rules.specs.Walls.{Plays}
use Rattle.whole_rules.specs.WholeGame.{Whole}
use Rattle.endgame_solver.specs.PlayLine.{IsFirstBestStone, IsHotStone, NoneIsHot}
use Rattle.endgame_solver.specs.Thresholds.{IsWithoutCycle}

-- where this is the threshold, the last komi with which the player who moves wins
abbrev pub last_won : Colour → ℤ → ℤ
last_won Black K = K
last_won White K = K +ℤ pos 1

-- the stone is in a hot region, and the threshold after it is this one
abbrev pub KeepsThreshold : Ground → List Region → Colour → List ℕ → Whole → ℕ → ℤ → Type 0
KeepsThreshold x regions c ps t p K = IsHotStone x.board regions t p × IsThresholdAfter x c (ps ++ p ∷ []) K

-- Stones lead from an opening of the ground to the state, and the threshold there is so many halves of a point above the opening's
-- komi.
pub record IsReached (x : Ground) (regions : List Region) (k : ℤ) (s t : Whole) (ps : List ℕ) (n : ℤ) : Type 0 where
  pub calm : IsWithoutCycle x regions
  pub opens : OpensWith x k s.side s
  pub plays : Plays s (stones ps) t
  pub threshold : IsThresholdAfter x s.side ps (k +ℤ n)

-- the stone is in a hot region and keeps the threshold, or not, however the state is reached
abbrev pub TellsKeeping : List Region → Whole → ℤ → ℕ → Bool → Type 0
TellsKeeping regions t n p keeps = (x : Ground) (k : ℤ) (s : Whole) (ps : List ℕ) → IsReached x regions k s t ps n
    → IsTrue keeps ↔ KeepsThreshold x regions s.side ps t p (k +ℤ n)

-- the first of the best stones in hot regions, which keeps the threshold; none where no region is hot
abbrev pub IsNext : Ground → List Region → Colour → List ℕ → Whole → ℤ → Option ℕ → Type 0
IsNext x regions c ps t K None = NoneIsHot x.board regions t
IsNext x regions c ps t K (Some p) = IsFirstBestStone x regions c ps t p × IsThresholdAfter x c (ps ++ p ∷ []) K

-- the next stone, however the state is reached
abbrev pub TellsNext : List Region → Whole → ℤ → Option ℕ → Type 0
TellsNext regions t n next = (x : Ground) (k : ℤ) (s : Whole) (ps : List ℕ) → IsReached x regions k s t ps n
    → IsNext x regions s.side ps t (k +ℤ n) next

-- no more than 2 ^ 41 stones can be played one after the other from the state
abbrev pub HasFewStones : Whole → Type 0
HasFewStones t = (ps : List ℕ) (u : Whole) → Plays t (stones ps) u → length ps ≤ 2 ^ 41
