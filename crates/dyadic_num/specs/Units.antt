-- A dyadic number, as a whole number of parts of 2 ^ -60.
use Rattle.std.specs.Prelude.{ℕ, ◌^◌, ◌<◌, ◌≡◌, ◌*◌, ◌≤◌, ℤ, pos, ◌*ℤ◌, ◌<ℤ◌, unsigned_abs, Option, Some, None}
use Rattle.dyadic_num.specs.declared.TheConstants.{EXPONENT, LIMIT}
use Rattle.std.specs.declared.cmp.Ordering.{Ordering}
use Rattle.std.specs.declared.cmp.Ordering.TheVariants.{Less, Equal, Greater}

-- the numbers of a size below 2 ^ 60 whose denominator is at most 2 ^ 60
abbrev pub IsInBounds : ℤ → Type 0
IsInBounds u = unsigned_abs u < unsigned_abs LIMIT

-- the ends between which a simplest number is looked for: of at most four times the size of the bounds
abbrev pub IsInReach : ℤ → Type 0
IsInReach k = unsigned_abs k ≤ 4 * unsigned_abs LIMIT

-- u is n / 2 ^ e
abbrev pub IsFraction : ℤ → ℤ → ℕ → Type 0
IsFraction u n e = u *ℤ pos (2 ^ e) ≡ n *ℤ pos (2 ^ EXPONENT)

-- u is a fraction over 2 ^ e: its exponent is at most e
abbrev pub IsOver : ℕ → ℤ → Type 0
IsOver e u = (n : ℤ) × IsFraction u n e

-- u is a multiple of d
abbrev pub IsMultiple : ℕ → ℤ → Type 0
IsMultiple d u = (k : ℕ) × (unsigned_abs u ≡ k * d)

-- u is n / 2 ^ e in lowest terms: of the exponents with which u is a fraction it is the least
pub record IsLowest (u n : ℤ) (e : ℕ) : Type 0 where
  pub fraction : IsFraction u n e
  pub lowest : (m : ℤ) (d : ℕ) → IsFraction u m d → e ≤ d

-- u is above the bound, where there is one
abbrev pub IsAboveBound : Option ℤ → ℤ → Type 0
IsAboveBound None u = Unit {0}
IsAboveBound (Some low) u = low <ℤ u

-- u is below the bound, where there is one
abbrev pub IsBelowBound : Option ℤ → ℤ → Type 0
IsBelowBound None u = Unit {0}
IsBelowBound (Some high) u = u <ℤ high

-- u is the simplest of the numbers that pass, where a multiple of 2 ^ k has the exponent e - k or less: the least
-- exponent goes first, and then the least size
pub record IsSimplest (e : ℕ) (Passes : ℤ → Type 0) (u : ℤ) : Type 0 where
  pub passes : Passes u
  pub least_exponent : (v : ℤ) → Passes v → (k : ℕ) → k ≤ e → IsMultiple (2 ^ k) v → IsMultiple (2 ^ k) u
  pub least_size : (v : ℤ) → Passes v → ((k : ℕ) → k ≤ e → IsMultiple (2 ^ k) u → IsMultiple (2 ^ k) v) → unsigned_abs u ≤ unsigned_abs v

-- u is within the bounds of a Dyadic and strictly between two others, of which each may be absent
abbrev pub IsBetween : Option ℤ → Option ℤ → ℤ → Type 0
IsBetween low high u = IsInBounds u × IsAboveBound low u × IsBelowBound high u

-- u is the simplest number strictly between two bounds that may be absent: the least exponent goes first, and then the
-- least size
pub record IsSimplestBetween (low high : Option ℤ) (u : ℤ) : Type 0 where
  pub between : IsBetween low high u
  pub least_exponent : (v : ℤ) → IsBetween low high v → (e : ℕ) → IsOver e v → IsOver e u
  pub least_size : (v : ℤ) → IsBetween low high v → ((e : ℕ) → IsOver e u → IsOver e v) → unsigned_abs u ≤ unsigned_abs v

-- u is strictly between the two
abbrev pub IsInside : ℤ → ℤ → ℤ → Type 0
IsInside low high u = (low <ℤ u) × (u <ℤ high)

-- x stands to y as the ordering says
abbrev pub IsOrdered : Ordering → ℤ → ℤ → Type 0
IsOrdered Less x y = x <ℤ y
IsOrdered Equal x y = x ≡ y
IsOrdered Greater x y = y <ℤ x
