-- Thresholds: that there is one, and where it stands in the sum of the regions' trees.
use Rattle.std.specs.Prelude.{ℕ, ℤ, pos, ◌+ℤ◌, ◌-ℤ◌, ◌≤ℤ◌, ◌≡◌, ◌↔◌, List, Contains}
use Rattle.go_grid.specs.declared.grid.Colour.{Colour}
use Rattle.go_grid.specs.declared.grid.Colour.TheVariants.{Black, White}
use Rattle.go_grid.specs.Chain.{IsSettled}
use Rattle.go_grid.specs.Region.{Region}
use Rattle.whole_rules.specs.OpeningWith.{Ground, OpensWith}
use Rattle.whole_rules.specs.Threshold.{IsThreshold, IsThresholdAfter, stones}
use Rattle.whole_rules.specs.Walls.{Plays}
use Rattle.whole_rules.specs.WholeGame.{Whole}
use Rattle.local_graph.specs.FiniteLocalPlay.{HasNoCycle}
use Rattle.region_cut.specs.Cut.{AreRegionsOfPlay}
use Rattle.short_games.specs.Tree.{Tree, Trees}
use Rattle.short_games.specs.Number.{num}
use Rattle.short_games.specs.Sum.{◌+ᵍ◌, total}
use Rattle.game_players.specs.Players.{LosesGame}
use Rattle.endgame_solver.specs.Decomposition.{AreTreesOn}
use Rattle.endgame_solver.specs.SumGame.{balance}

-- Black wins the game where this player moves first
abbrev pub BlackWins : Colour → Tree → Type 0
BlackWins Black G = ¬ LosesGame Black G
BlackWins White G = LosesGame White G

-- Black wins the game where this player moves first exactly beside at least so many halves of a point
abbrev pub IsLeastWin : Colour → Tree → ℤ → Type 0
IsLeastWin c G least = (y : ℤ) → BlackWins c (G +ᵍ num 1 y) ↔ (least ≤ℤ y)

-- the threshold after these stones, the first of the player, on each ground that the state opens with this komi
abbrev pub IsThresholdFrom : Whole → ℤ → Colour → List ℕ → ℤ → Type 0
IsThresholdFrom s k c ps K = (x : Ground) → OpensWith x k s.side s → IsThresholdAfter x c ps K

-- exactly one whole number has the property
abbrev pub HasOne : (ℤ → Type 0) → Type 0
HasOne P = (K : ℤ) × P K × ((L : ℤ) → P L → L ≡ K)

-- the greatest whole number that has the property
abbrev pub IsGreatest : (ℤ → Type 0) → ℤ → Type 0
IsGreatest P K = P K × ((k : ℤ) → P k → k ≤ℤ K)

-- the ground has a settled board with these regions of play, none of which has a cycle
pub record IsWithoutCycle (x : Ground) (regions : List Region) : Type 0 where
  pub settled : IsSettled x.board
  pub are_regions : AreRegionsOfPlay x.board regions
  pub no_cycle : (r : Region) → Contains regions r → HasNoCycle r.touch r.cells

-- stones that can be played from one opening of a ground can be played from each with the same side to move
abbrev pub StonesServeEachKomi : Type 0
StonesServeEachKomi = (x : Ground) (k l : ℤ) (c : Colour) (s t u : Whole) (ps : List ℕ) → OpensWith x k c s → Plays s (stones ps) t
    → OpensWith x l c u → (v : Whole) × Plays u (stones ps) v

-- without a cycle there is exactly one threshold after all stones that can be played from an opening
abbrev pub ThresholdsExist : Type 0
ThresholdsExist = (x : Ground) (regions : List Region) (k : ℤ) (c : Colour) (s t : Whole) (ps : List ℕ) → IsWithoutCycle x regions
    → OpensWith x k c s → Plays s (stones ps) t → HasOne (IsThresholdAfter x c ps)

-- without a cycle the threshold of Black moving first is at least that of White moving first, less one half
abbrev pub FirstMoveCostsAHalf : Type 0
FirstMoveCostsAHalf = (x : Ground) (regions : List Region) (k : ℤ) (c : Colour) (s : Whole) (K L : ℤ) → IsWithoutCycle x regions
    → OpensWith x k c s → IsThreshold x Black K → IsThreshold x White L → L ≤ℤ (K +ℤ pos 1)

-- without a cycle the threshold is the greatest komi with which Black wins the sum of the trees and the balance of the purses,
-- as it is without a komi, less that komi
abbrev pub ThresholdIsInSum : Type 0
ThresholdIsInSum = (x : Ground) (regions : List Region) (trees : Trees) (c : Colour) (s : Whole) (K : ℤ) → IsWithoutCycle x regions
    → AreTreesOn x.board x.board regions trees → OpensWith x (pos 0) c s
    → IsThreshold x c K ↔ IsGreatest (λ k. BlackWins c (total trees +ᵍ num 1 (balance s.purses -ℤ k))) K
