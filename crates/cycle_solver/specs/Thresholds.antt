-- Up to which komi Black wins, and above which White wins, where kos can arise: between the two nobody does.
use Rattle.std.specs.Prelude.{ℕ, ℤ, pos, ◌+ℤ◌, ◌<ℤ◌, ◌≤ℤ◌, ◌↔◌, List, [], Contains}
use Rattle.go_grid.specs.declared.grid.Colour.{Colour}
use Rattle.go_grid.specs.declared.grid.Colour.TheVariants.{Black, White}
use Rattle.go_grid.specs.Chain.{IsSettled}
use Rattle.go_grid.specs.Region.{Region}
use Rattle.region_cut.specs.Cut.{AreRegionsOfPlay}
use Rattle.whole_rules.specs.FirstWinningMove.{IsWinner}
use Rattle.whole_rules.specs.OpeningWith.{Ground, OpensWith}
use Rattle.whole_rules.specs.Threshold.{stones}
use Rattle.whole_rules.specs.Walls.{Plays}
use Rattle.whole_rules.specs.WholeGame.{Whole}
use Rattle.local_trees.specs.Steady.{IsSteady}
use Rattle.endgame_solver.specs.Thresholds.{HasOne}
use Rattle.cycle_solver.specs.declared.thresholds.Thresholds.{Thresholds}

-- the komi is on the player's side of the player's threshold
abbrev pub IsGoodFor : Colour → ℤ → ℤ → Type 0
IsGoodFor Black K k = k ≤ℤ K
IsGoodFor White K k = K <ℤ k

-- after the stones, of which the player to move at the opening has the first, the player `d` wins exactly where the komi is on
-- that player's side of the threshold
abbrev pub IsThresholdFor : Colour → Ground → Colour → List ℕ → ℤ → Type 0
IsThresholdFor d x c ps K = (k : ℤ) (s t : Whole) → OpensWith x k c s → Plays s (stones ps) t → IsWinner t d ↔ IsGoodFor d K k

-- the same on each ground that the state opens with this komi
abbrev pub IsThresholdForFrom : Colour → Whole → ℤ → Colour → List ℕ → ℤ → Type 0
IsThresholdForFrom d s k c ps K = (x : Ground) → OpensWith x k s.side s → IsThresholdFor d x c ps K

-- the player's threshold after the stones is so many halves of a point above the komi with which the state opens a ground
abbrev pub IsMarginFor : Colour → Whole → Colour → List ℕ → ℤ → Type 0
IsMarginFor d s c ps n = (x : Ground) (k : ℤ) → OpensWith x k s.side s → IsThresholdFor d x c ps (k +ℤ n)

-- the ground has a settled board with these regions of play, each of which is steady for both colours at some budget
pub record IsSteadyGround (x : Ground) (regions : List Region) : Type 0 where
  pub settled : IsSettled x.board
  pub are_regions : AreRegionsOfPlay x.board regions
  pub steady : (r : Region) → Contains regions r → (d : Colour) → (j : ℕ) × IsSteady r.touch r.cells d j

-- both players' thresholds
pub record AreThresholdsFrom (s : Whole) (k : ℤ) (c : Colour) (ps : List ℕ) (both : Thresholds) : Type 0 where
  pub black : IsThresholdForFrom Black s k c ps both.black
  pub white : IsThresholdForFrom White s k c ps both.white

-- there is exactly one threshold for each player after all stones that can be played from an opening
abbrev pub BothThresholdsExist : Type 0
BothThresholdsExist = (d : Colour) (x : Ground) (regions : List Region) (k : ℤ) (c : Colour) (s t : Whole) (ps : List ℕ) → IsSteadyGround x regions
    → OpensWith x k c s → Plays s (stones ps) t → HasOne (IsThresholdFor d x c ps)

-- Black's threshold is at most White's
abbrev pub ThresholdsAreInOrder : Type 0
ThresholdsAreInOrder = (x : Ground) (k : ℤ) (c : Colour) (s t : Whole) (ps : List ℕ) (K L : ℤ)
    → OpensWith x k c s → Plays s (stones ps) t → IsThresholdFor Black x c ps K → IsThresholdFor White x c ps L → K ≤ℤ L

-- a player's threshold where Black moves first is at least the one where White does, less one half
abbrev pub MovingFirstCostsAHalf : Type 0
MovingFirstCostsAHalf = (d : Colour) (x : Ground) (regions : List Region) (k : ℤ) (c : Colour) (s : Whole) (K L : ℤ) → IsSteadyGround x regions
    → OpensWith x k c s → IsThresholdFor d x Black [] K → IsThresholdFor d x White [] L → L ≤ℤ (K +ℤ pos 1)
