-- The limits, as numbers.
use Rattle.std.specs.Prelude.{ℕ}

-- a number is one of 2 ^ -60, and its size is below 2 ^ 60
abbrev pub greatest_exponent : ℕ
greatest_exponent = 60
