-- The limits, as numbers.
use Rattle.std.specs.Prelude.{ℕ}

-- the whole points of a komi are at most so many
abbrev pub most_komi : ℕ
most_komi = 999999

-- an option gives a side at most so many prisoners
abbrev pub most_prisoners : ℕ
most_prisoners = 999999
