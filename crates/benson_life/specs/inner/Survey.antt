-- What the life of one colour is read from: its chains and regions, each named by its lowest point.
use Rattle.go_grid.specs.declared.grid.Colour.{Colour}
use Rattle.go_grid.specs.Board.{Board, HasStone, IsEmpty, Lacks}
use Rattle.go_grid.specs.Marks.{Marks}
use Rattle.go_grid.specs.Parts.{ArePartLabels}
use Rattle.benson_life.specs.declared.surveys.Survey.{Survey}

-- the survey of a colour: its stones, the points without one, the empty points, its chains and its regions
pub record IsSurvey (g : Board) (c : Colour) (s : Survey) : Type 0 where
  pub stones : Marks s.stones (HasStone g c)
  pub lacking : Marks s.lacking (Lacks g c)
  pub empties : Marks s.empties (IsEmpty g)
  pub chains : ArePartLabels g.columns (HasStone g c) s.chains
  pub regions : ArePartLabels g.columns (Lacks g c) s.regions
