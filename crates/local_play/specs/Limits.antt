-- The limits, as numbers.
use Rattle.std.specs.Prelude.{ℕ}

-- a region has at most so many points
abbrev pub most_places : ℕ
most_places = 32
