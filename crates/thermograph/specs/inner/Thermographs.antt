-- Break points as pairs of numbers.
use Rattle.std.specs.Prelude.{ℕ, ◌<◌, ℤ, pos, unsigned_abs, length, map, List}
use Rattle.std.specs.List.{slice_index_or}
use Rattle.dyadic_num.specs.declared.TheConstants.{LIMIT}
use Rattle.thermograph.specs.declared.breaks.Break.{Break}
use Rattle.thermograph.specs.inner.Breaks.{IsInRange}

-- break points as pairs of t and x
abbrev pub points : List Break → List (ℤ × ℤ)
points bs = map (λ b. (pos b.at, b.value)) bs

-- break points within the bounds of a Dyadic
abbrev pub AreInBounds : List Break → Type 0
AreInBounds bs = (j : ℕ) → j < length bs → ((slice_index_or bs j (record { at = 0; value = pos 0 })).at < unsigned_abs LIMIT) × IsInRange (slice_index_or bs j (record { at = 0; value = pos 0 })).value
