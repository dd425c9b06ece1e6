use Rattle.std.proofs.Common.{◌≡◌, get_or, sym, ◌∙◌}
use Rattle.go_grid.proofs.PointsLemmas.{item_is, noted_start, noted_one, noted_items}
use Rattle.go_grid.proofs.points.Points.of.Goals as goal

pub loop-point-init : goal.loop-point-init
loop-point-init c = noted_start _ _ c.new-points.ensures

pub loop-point-preserved : goal.loop-point-preserved
loop-point-preserved c =
    let at = item_is c.args.list.now _ _ c.loop-point-test.true c.point-item.is in
    noted_one (λ i x. get_or c.args.list.now i 0 ≡ x) _ _ _ _ c.loop-point.invariant (sym at) (λ k e. sym e ∙ sym at) c.insert.ensures.marks

pub returns : goal.returns
returns c = noted_items c.args.list.now _ _ c.loop-point.invariant c.loop-point.auto.point-index-end c.loop-point-test.false
