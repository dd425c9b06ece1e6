-- The limits, as numbers.
use Rattle.std.specs.Prelude.{ℕ}

-- a board has at most so many points, 25 by 25
abbrev pub most_points : ℕ
most_points = 625
