-- The limits, as numbers.
use Rattle.std.specs.Prelude.{ℕ}

-- a region has at most so many positions
abbrev pub most_positions : ℕ
most_positions = 1000000
