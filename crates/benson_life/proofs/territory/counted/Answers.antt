use Rattle.std.proofs.Common.{◌<◌, length}
use Rattle.std.specs.List.{All}
use Rattle.std.proofs.lemmas.Result.{IfOk-weaker}
use Rattle.go_grid.specs.Marks.{IsMarked, Lists}
use Rattle.go_grid.proofs.PointsLemmas.{lists_same}
use Rattle.benson_life.specs.Life.{IsCounted}
use Rattle.benson_life.proofs.ContestLemmas.{counted_short}
use Rattle.benson_life.proofs.territory.counted.Goals as goal

pub counted_points-requires-clause-eyes : goal.counted_points-requires-clause-eyes
counted_points-requires-clause-eyes c e = rw c.deref.ensures.value (c.in_ok-eyes.ensures e)

pub returns : goal.returns
returns c =
    let g = c.args.board.now in
    let counted = IfOk-weaker c.to_list.result (λ points. Lists points.items (IsMarked c.counted_points.result))
    (λ points. Lists points.items (IsCounted g c.args.colour))
    (λ points l. lists_same points.items _ (IsCounted g c.args.colour) l c.counted_points.ensures) c.to_list.ensures in
    record {
      counted = counted;
      on_board = IfOk-weaker c.to_list.result (λ points. Lists points.items (IsCounted g c.args.colour))
          (λ points. All (λ p. p < length g.cells) points.items)
          (λ points l k d lt. counted_short g c.args.colour points.items l k d lt) counted;
    }
