-- The score of a finished game.
use Rattle.std.specs.Prelude.{ℕ, ℤ, pos, ◌<◌, ◌≤◌, ◌^◌, ◌≢◌, ◌+ℤ◌, ◌-ℤ◌, unsigned_abs, List, [], ◌∷◌}
use Rattle.go_grid.specs.declared.grid.Colour.TheVariants.{Black, White}
use Rattle.go_grid.specs.Region.{Region}
use Rattle.whole_rules.specs.WholeGame.{Whole}
use Rattle.endgame_solver.specs.PlayLine.{IsLineFrom}
use Rattle.endgame_solver.specs.Thresholds.{IsThresholdFrom}
use Rattle.report.specs.declared.score.Score.{Score}
use Rattle.report.specs.declared.score.Score.TheVariants.{Halves, Stone, Fraction}

-- The score of a state that opens with this komi, in half-points to Black's good, where no region is hot: Black wins with White to move
-- first exactly while the komi is no greater by more than so much, and with Black to move first up to a half-point less. Or the
-- first stone of the line of play, where a region is hot. Or none, where the values are numbers that half-points don't tell apart.
abbrev pub IsScore : List Region → Whole → ℤ → Score → Type 0
IsScore regions s k (Halves n) = IsLineFrom regions s k [] × IsThresholdFrom s k White [] (k +ℤ n) × IsThresholdFrom s k Black [] ((k +ℤ n) -ℤ pos 1)
IsScore regions s k (Stone p) = (ps : List ℕ) × IsLineFrom regions s k (p ∷ ps)
IsScore regions s k Fraction = IsLineFrom regions s k []
    × ((black white : ℤ) × IsThresholdFrom s k Black [] black × IsThresholdFrom s k White [] white × (white ≢ (black +ℤ pos 1)))

-- the half-points are a number of 49 bits, and the stone is on a board of so many points
abbrev pub CanBeTold : ℕ → Score → Type 0
CanBeTold area (Halves n) = unsigned_abs n ≤ 2 ^ 48
CanBeTold area (Stone p) = p < area
CanBeTold area Fraction = Unit {0}
