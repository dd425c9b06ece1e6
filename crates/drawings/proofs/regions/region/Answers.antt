use Rattle.drawings.proofs.RegionLemmas.{whole_board}
use Rattle.drawings.proofs.regions.region.Goals as goal

pub invariant_of-result : goal.invariant_of-result
invariant_of-result c =
    whole_board _ _ _ _ _ (c.unwrap_or-size.result.columns_in.0) c.points_of.ensures.some c.in_ok-points.ensures.long
    c.in_ok-points.ensures.each c.in_ok-cells.ensures c.in_ok-touch.ensures.long c.in_ok-touch.ensures.near
