-- The ends of an open span of numbers, in units of 2^-60.
use Rattle.std.specs.Prelude.{neg_ℤ, ℤ, Option, Some, None}
use Rattle.dyadic_num.specs.declared.TheConstants.{LIMIT}
use Rattle.dyadic_num.specs.Units.{IsInBounds}

-- the lower bound, and where there is none an end below all numbers within the bounds of a Dyadic
abbrev pub low_end : Option ℤ → ℤ
low_end None = neg_ℤ LIMIT
low_end (Some low) = low

-- the upper bound, and where there is none an end above all numbers within the bounds of a Dyadic
abbrev pub high_end : Option ℤ → ℤ
high_end None = LIMIT
high_end (Some high) = high

-- the number, where there is one, is within the bounds of a Dyadic
abbrev pub IsSmall : Option ℤ → Type 0
IsSmall None = Unit {0}
IsSmall (Some x) = IsInBounds x
