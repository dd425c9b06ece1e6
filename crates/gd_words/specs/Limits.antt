-- The limits, as numbers.
use Rattle.std.specs.Prelude.{ℕ}

-- `--after` names at most so many moves of a file
abbrev pub most_file_moves : ℕ
most_file_moves = 999999

-- a form has at most so many parts
abbrev pub most_parts : ℕ
most_parts = 4000
