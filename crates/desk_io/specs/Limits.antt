-- The limits, as numbers.
use Rattle.std.specs.Prelude.{ℕ}

-- a session reads at most so many lines
abbrev pub most_lines : ℕ
most_lines = 10000
