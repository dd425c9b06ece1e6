-- The text of a komi.
use Rattle.std.specs.Prelude.{◌≡◌, ℕ, ◌+◌, ◌*◌, ◌≤◌, List, [], ◌∷◌, ◌++◌, length, true, ℤ, pos, neg_ℤ, ◌≤ℤ◌}
use Rattle.std.specs.List.{AllByRecursion}
use Rattle.std.specs.Char.{is_ascii_digit}
use Rattle.std.specs.Str.Parse.{digits_value}
use Rattle.std.specs.Float.Numeral.{dot, minus, plus}
use Rattle.sgf_go.specs.declared.komi.TheConstants.{MOST_KOMI}

-- the byte `0`
abbrev pub digit_0 : ℕ
digit_0 = 48

-- the byte `5`
abbrev pub digit_5 : ℕ
digit_5 = 53

-- each of the bytes is a decimal digit
abbrev pub AreDigits : List ℕ → Type 0
AreDigits = AllByRecursion (λ b. is_ascii_digit b ≡ true)

-- each of the bytes is the digit `0`
abbrev pub AreZeros : List ℕ → Type 0
AreZeros = AllByRecursion (λ b. b ≡ digit_0)

-- what stands behind the digits, how many digits it has, and how many halves it adds
pub data IsKomiFraction : List ℕ → ℕ → ℕ → Type 0 where
  nothing : IsKomiFraction [] 0 0
  zeros : (bytes : List ℕ) → AreZeros bytes → IsKomiFraction (dot ∷ bytes) (length bytes) 0
  half : (bytes : List ℕ) → AreZeros bytes → IsKomiFraction (dot ∷ digit_5 ∷ bytes) (length bytes + 1) 1

-- a number without a sign, and how many halves it is; it has a digit
pub data IsHalves : List ℕ → ℕ → Type 0 where
  halves : (whole fraction : List ℕ) (digits more : ℕ) → AreDigits whole → digits_value 10 whole ≤ MOST_KOMI → IsKomiFraction fraction digits more → 1 ≤ length whole + digits
      → IsHalves (whole ++ fraction) (2 * digits_value 10 whole + more)

-- a komi, and how many halves it is
pub data IsKomi : List ℕ → ℤ → Type 0 where
  unsigned : (bytes : List ℕ) (n : ℕ) → IsHalves bytes n → IsKomi bytes (pos n)
  positive : (bytes : List ℕ) (n : ℕ) → IsHalves bytes n → IsKomi (plus ∷ bytes) (pos n)
  negative : (bytes : List ℕ) (n : ℕ) → IsHalves bytes n → IsKomi (minus ∷ bytes) (neg_ℤ (pos n))

-- at most so many points and a half to either side, in half-points
abbrev pub IsInRange : ℤ → Type 0
IsInRange k = (neg_ℤ (pos (2 * MOST_KOMI + 1)) ≤ℤ k) × (k ≤ℤ pos (2 * MOST_KOMI + 1))
