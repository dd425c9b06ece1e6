use Rattle.go_grid.specs.Marks.{IsMarked}
use Rattle.go_grid.specs.Walk.{Joined}
use Rattle.go_grid.proofs.PointsLemmas.{lists_same}
use Rattle.drawings.proofs.joined_regions.part_of.Goals as goal

pub returns : goal.returns
returns c =
    lists_same c.in_ok-points.points.items (IsMarked c.fill.result) (Joined c.args.size.columns (IsMarked c.args.within.now) c.args.start)
    c.in_ok-points.ensures c.fill.ensures
