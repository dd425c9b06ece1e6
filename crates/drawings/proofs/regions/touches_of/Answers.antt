use Rattle.std.proofs.Common.{arith}
use Rattle.std.proofs.lemmas.List.{length_push}
use Rattle.drawings.proofs.RegionLemmas.{near_push}
use Rattle.drawings.proofs.regions.touches_of.Goals as goal

pub loop-number-preserved : goal.loop-number-preserved
loop-number-preserved c =
    let s = c.loop-number.invariant in
    rw c.in_ok-push.ensures.items record {
      long = omega (arith, length_push c.loop-number.touch.items c.touch_of.result, s.long);
      near = near_push _ _ _ c.loop-number.touch.items c.touch_of.result s.long s.near c.touch_of.ensures;
    }
