-- The values of the code, as the definitions have them.
use Rattle.sgf_go.specs.Values.{Extent}
use Rattle.go_grid.specs.declared.grid.Size.{Size}

-- the code's size of a board as an extent
abbrev pub extent : Size → Extent
extent s = record { columns = s.columns; rows = s.rows }
