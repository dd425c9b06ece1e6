-- What lives without answers on a board, and what it counts.
use Rattle.go_grid.specs.declared.grid.Colour.{Colour}
use Rattle.go_grid.specs.declared.grid.Colour.TheVariants.{Black, White}
use Rattle.go_grid.specs.Board.{Board}
use Rattle.go_grid.specs.Marks.{Marks}
use Rattle.benson_life.specs.declared.territory.Life.{Life}
use Rattle.benson_life.specs.declared.territory.Territory.{Territory}
use Rattle.benson_life.specs.Life.{IsAlive, IsCounted}

-- the sets are the alive stones of the colour and the points counted for it
pub record IsLife (g : Board) (c : Colour) (l : Life) : Type 0 where
  pub alive : Marks l.alive (IsAlive g c)
  pub counted : Marks l.counted (IsCounted g c)

-- the territory of the board: for each colour its alive stones and the points counted for it
pub record IsTerritory (g : Board) (t : Territory) : Type 0 where
  pub black : IsLife g Black t.black
  pub white : IsLife g White t.white
