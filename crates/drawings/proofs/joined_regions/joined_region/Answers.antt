use Rattle.std.proofs.Common.{arith}
use Rattle.drawings.proofs.JoinedLaws.{part_inside, part_is_region}
use Rattle.drawings.proofs.joined_regions.joined_region.Goals as goal

pub touches_of-requires-clause-inside : goal.touches_of-requires-clause-inside
touches_of-requires-clause-inside c =
    rw c.deref.ensures.value (part_inside 4 16 _ c.points_of-within.result c.in_ok-points.points.items c.points_of-within.ensures c.in_ok-points.ensures)

pub invariant_of-result : goal.invariant_of-result
invariant_of-result c =
    let points = c.in_ok-points.points.items in
    let same = c.deref.ensures.value in
    let touched = c.in_ok-touch.ensures in
    part_is_region 4 4 _ c.points_of-within.result points c.in_ok-cells.cells.items c.in_ok-touch.touch.items c.points_of-within.ensures
    (c.contains.ensures.0 c.if-not-contains.false) c.in_ok-points.ensures
    (omega (arith, c.in_ok-cells.ensures, c.len-2.ensures, c.in_ok-points.points.ok)) (rw same at touched.long) (rw same at touched.links)
