-- Stones of a colour.
use Rattle.std.specs.Prelude.{Bool, true, false}
use Rattle.go_grid.specs.declared.grid.Cell.{Cell}
use Rattle.go_grid.specs.declared.grid.Cell.TheVariants as cell
use Rattle.go_grid.specs.declared.grid.Colour.{Colour}
use Rattle.go_grid.specs.declared.grid.Colour.TheVariants.{Black, White}

-- whether the cell holds a stone of the colour
abbrev pub is_of : Colour → Cell → Bool
is_of c cell.Empty = false
is_of Black cell.Black = true
is_of Black cell.White = false
is_of White cell.Black = false
is_of White cell.White = true
