-- The limits, as numbers.
use Rattle.std.specs.Prelude.{ℕ}

-- a side has a budget of at most so many captures that return
abbrev pub most_captures : ℕ
most_captures = 32
