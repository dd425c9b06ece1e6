use Rattle.std.proofs.Common.{arith, get_or, subst, sym}
use Rattle.std.proofs.lemmas.List.{get_or_read, length_push}
use Rattle.go_grid.specs.Region.{nothing_near, touch_at}
use Rattle.region_cut.specs.inner.Places.{IsTouch}
use Rattle.region_cut.proofs.CutLemmas.{push_more}
use Rattle.region_cut.proofs.region_touches.touches_of.Goals as goal

pub touching-preserved : goal.touching-preserved
touching-preserved c =
    let s = c.touching.invariant in
    let i = c.touching.point-index in
    let k = c.args.size.columns in
    let points = c.args.points.now in
    let old = c.touching.found.items in
    let t = c.touch_of.result in
    let items = c.in_ok-push.ensures.items in
    let read = get_or_read points i c.point-item.result (omega arith) c.point-item.is 0 in
    let here = subst (λ p. IsTouch k points c.args.black.now c.args.white.now p t) read c.touch_of.ensures in
    record {
      long = rw items (omega (arith, length_push old t, s.long));
      each = λ j lt. subst (λ ts. IsTouch k points c.args.black.now c.args.white.now (get_or points j 0) (touch_at ts j)) (sym items)
          (push_more old t nothing_near i (λ j u. IsTouch k points c.args.black.now c.args.white.now (get_or points j 0) u)
          s.long s.each here j lt);
    }
