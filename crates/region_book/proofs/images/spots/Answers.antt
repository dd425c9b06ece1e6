use Rattle.std.proofs.Common.{arith}
use Rattle.std.proofs.lemmas.List.{length_push}
use Rattle.region_book.proofs.MadeLaws.{spots_push}
use Rattle.region_book.proofs.images.spots.Goals as goal

pub loop-place-preserved : goal.loop-place-preserved
loop-place-preserved c =
    let s = c.loop-place.invariant in
    rw c.in_ok-push.ensures.items record {
      long = omega (arith, length_push c.loop-place.all.items c.spot.result, s.long);
      each = spots_push c.args.region.now c.args.cells.now c.args.symmetry c.args.colours c.args.begin.column c.args.begin.row c.loop-place.place c.loop-place.all.items c.spot.result s.long s.each c.spot.ensures;
    }
