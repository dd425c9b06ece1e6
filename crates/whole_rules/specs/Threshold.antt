-- Up to which komi Black wins.
use Rattle.std.specs.Prelude.{ℕ, ℤ, ◌≤ℤ◌, ◌↔◌, List, [], ◌∷◌}
use Rattle.go_grid.specs.declared.grid.Colour.{Colour}
use Rattle.go_grid.specs.declared.grid.Colour.TheVariants.{Black}
use Rattle.whole_rules.specs.declared.states.Move.{Move}
use Rattle.whole_rules.specs.declared.states.Move.TheVariants.{Stone}
use Rattle.whole_rules.specs.WholeGame.{Whole}
use Rattle.whole_rules.specs.FirstWinningMove.{IsWinner}
use Rattle.whole_rules.specs.Walls.{Plays}
use Rattle.whole_rules.specs.OpeningWith.{Ground, OpensWith}

-- the moves of stones at these points
abbrev pub stones : List ℕ → List Move
stones [] = []
stones (p ∷ ps) = Stone p ∷ stones ps

-- after the stones, of which the player to move at the opening has the first, Black wins exactly where the komi is at most
-- the threshold
abbrev pub IsThresholdAfter : Ground → Colour → List ℕ → ℤ → Type 0
IsThresholdAfter x c ps K = (k : ℤ) (s t : Whole) → OpensWith x k c s → Plays s (stones ps) t → IsWinner t Black ↔ (k ≤ℤ K)

-- Black wins the game of the player who moves first exactly where the komi is at most the threshold
abbrev pub IsThreshold : Ground → Colour → ℤ → Type 0
IsThreshold x c K = IsThresholdAfter x c [] K

-- Black wins after the first stone exactly where the komi is at most the threshold
abbrev pub IsStoneThreshold : Ground → Colour → ℕ → ℤ → Type 0
IsStoneThreshold x c p K = IsThresholdAfter x c (p ∷ []) K
