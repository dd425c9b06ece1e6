-- The limits, as numbers.
use Rattle.std.specs.Prelude.{ℕ}

-- a file has at most so many bytes
abbrev pub most_file_bytes : ℕ
most_file_bytes = 1048576
