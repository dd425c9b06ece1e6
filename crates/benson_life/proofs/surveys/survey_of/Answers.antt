use Rattle.go_grid.specs.Board.{HasStone, Lacks}
use Rattle.go_grid.specs.Marks.{IsMarked}
use Rattle.benson_life.proofs.PartsLemmas.{parts_over}
use Rattle.benson_life.proofs.surveys.survey_of.Goals as goal

pub returns : goal.returns
returns c =
    let g = c.args.board.now in record {
      stones = c.stones-stones.ensures;
      lacking = c.lacking-lacking.ensures;
      empties = c.empties.ensures;
      chains = rw (← c.size-size.ensures.columns)
          (parts_over c.size-size.result.columns (IsMarked c.stones-stones.result) (HasStone g c.args.colour) _ c.stones-stones.ensures c.components-chains.ensures);
      regions = rw (← c.size-size.ensures.columns)
          (parts_over c.size-size.result.columns (IsMarked c.lacking-lacking.result) (Lacks g c.args.colour) _ c.lacking-lacking.ensures c.components-regions.ensures);
    }
