-- Where the forms of a store stand among the numbers, as its slots keep it.
use Rattle.std.specs.Prelude.{ℤ, pos, neg_ℤ, ◌+ℤ◌, ◌-ℤ◌, ◌<ℤ◌}
use Rattle.dyadic_num.specs.declared.TheConstants.{LIMIT}

-- what a floor can be, where each number is within the bounds of a Dyadic: at such a number, or just below it
abbrev pub IsFloorRange : ℤ → Type 0
IsFloorRange k = (neg_ℤ (LIMIT +ℤ LIMIT) <ℤ k) × ((k +ℤ pos 1) <ℤ (LIMIT +ℤ LIMIT))

-- what a ceiling can be, where each number is within the bounds of a Dyadic: at such a number, or just above it
abbrev pub IsCeilingRange : ℤ → Type 0
IsCeilingRange k = (neg_ℤ (LIMIT +ℤ LIMIT) <ℤ (k -ℤ pos 1)) × (k <ℤ (LIMIT +ℤ LIMIT))
