use Rattle.std.proofs.Common.{arith}
use Rattle.std.proofs.lemmas.List.{length_push}
use Rattle.drawings.proofs.JoinedLaws.{links_push}
use Rattle.drawings.proofs.joined_regions.touches_of.Goals as goal

pub loop-place-preserved : goal.loop-place-preserved
loop-place-preserved c =
    let s = c.loop-place.invariant in
    rw c.in_ok-push.ensures.items record {
      long = omega (arith, length_push c.loop-place.touch.items c.touch_of.result, s.long);
      links = links_push c.args.size.columns c.args.points.now c.loop-place.place c.loop-place.touch.items c.touch_of.result s.long s.links c.touch_of.ensures;
    }
