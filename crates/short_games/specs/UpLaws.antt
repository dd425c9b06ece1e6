-- The laws of up and of its multiples.
use Rattle.std.specs.Prelude.{ℕ, suc, ℤ, pos, ◌<ℤ◌}
use Rattle.short_games.specs.Order.{◌≡ᵍ◌}
use Rattle.short_games.specs.Sum.{◌+ᵍ◌}
use Rattle.short_games.specs.Number.{num}
use Rattle.short_games.specs.Multiples.{times}
use Rattle.short_games.specs.Examples.{choice, zero, star, up}
use Rattle.short_games.specs.KnownValues.{IsLess, AreConfused}

-- up is above 0 and confused with star, and twice up is above star; up and up and star are {0|up}
abbrev pub KnownUps : Type 0
KnownUps = IsLess zero up × AreConfused up star × IsLess star (up +ᵍ up) × ((up +ᵍ up +ᵍ star) ≡ᵍ choice zero up)

-- each multiple of up is above the one before it, and so above 0
abbrev pub UpsGrow : Type 0
UpsGrow = (n : ℕ) → IsLess (times n up) (times (suc n) up) × IsLess zero (times (suc n) up)

-- each multiple of up is below each number above 0
abbrev pub UpsAreInfinitesimal : Type 0
UpsAreInfinitesimal = (n e : ℕ) (m : ℤ) → pos 0 <ℤ m → IsLess (times n up) (num e m)

-- a multiple of up is {0|H}, where H is the multiple before it and star
abbrev pub UpsAreForms : Type 0
UpsAreForms = (n : ℕ) → times (suc n) up ≡ᵍ choice zero (times n up +ᵍ star)

-- a multiple of up, from twice up on, and star are {0|G}, where G is the multiple before it
abbrev pub UpsAndStarAreForms : Type 0
UpsAndStarAreForms = (n : ℕ) → (times (suc (suc n)) up +ᵍ star) ≡ᵍ choice zero (times (suc n) up)
