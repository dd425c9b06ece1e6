-- Walls as lists of break points (t, x), both numbers in parts of 2 ^ -60.
use Rattle.std.specs.Prelude.{ℕ, ◌<◌, ℤ, pos, ◌≤ℤ◌, unsigned_abs, length, map, List}
use Rattle.std.specs.List.{slice_index_or}
use Rattle.thermograph.specs.declared.breaks.Break.{Break}

-- pairs of t and x as break points
abbrev pub breaks : List (ℤ × ℤ) → List Break
breaks w = map (λ p. record { at = unsigned_abs p.0; value = p.1 }) w

-- no t of the pairs is below 0
abbrev pub IsFromZero : List (ℤ × ℤ) → Type 0
IsFromZero w = (j : ℕ) → j < length w → pos 0 ≤ℤ (slice_index_or w j (pos 0, pos 0)).0
