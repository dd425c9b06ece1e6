-- Places as bits.
use Rattle.std.specs.Prelude.{ℕ, ◌/◌, ◌%◌, List, [], ◌∷◌, cond, eqb}
use Rattle.go_grid.specs.declared.grid.Cell.{Cell}
use Rattle.go_grid.specs.declared.grid.Cell.TheVariants.{Empty}

-- the position without what stands on the places of the set
unfoldable pub cleared : ℕ → List Cell → List Cell
cleared set [] = []
cleared set (c ∷ cs) = cond (eqb (set % 2) 1) Empty c ∷ cleared (set / 4) cs
