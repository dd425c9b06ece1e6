use Rattle.std.proofs.Common.{arith}
use Rattle.region_book.proofs.MadeLaws.{shape_end}
use Rattle.region_book.proofs.shape_of_region.shape.Goals as goal

pub places_of-places-requires-clause-long : goal.places_of-places-requires-clause-long
places_of-places-requires-clause-long c = omega (arith, c.in_ok-image.ensures.long, c.requires.few)

pub returns : goal.returns
returns c cells full packed =
    let held = c.cells-cells.ensures cells (omega (arith, full, c.requires.few)) packed in
    shape_end c.args.region.now c.cells-cells.result cells c.in_ok-image.image c.places_of-places.result held.same c.in_ok-image.ensures
    c.places_of-places.ensures.places c.places_of-places.ensures.past
