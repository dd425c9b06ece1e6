-- A number for each colour.
use Rattle.std.specs.Prelude.{◌+◌, ℕ}
use Rattle.go_grid.specs.declared.grid.Colour.{Colour}
use Rattle.go_grid.specs.declared.grid.Colour.TheVariants.{Black, White}

-- a number for each colour
pub record Tally : Type 0 where
  pub black : ℕ
  pub white : ℕ

-- the number of a colour
abbrev pub number_of : Colour → Tally → ℕ
number_of Black t = t.black
number_of White t = t.white

-- the numbers, of which that of the colour has grown
abbrev pub grown : Colour → ℕ → Tally → Tally
grown Black n t = record { black = t.black + n; white = t.white }
grown White n t = record { black = t.black; white = t.white + n }
