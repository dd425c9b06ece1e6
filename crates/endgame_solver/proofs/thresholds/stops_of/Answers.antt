use Rattle.std.proofs.Common.{arith, length, subst, sym, ◌+◌, ◌<◌}
use Rattle.endgame_solver.proofs.MarginLaws.{StopsSoFar, stops_end, stops_next}
use Rattle.endgame_solver.proofs.thresholds.stops_of.Goals as goal

pub adding-preserved : goal.adding-preserved
adding-preserved c =
    let lt : c.adding.id-index < length c.args.sum.now = omega (arith, c.adding-test.true) in
    subst (λ z. StopsSoFar c.args.store.now c.args.sum.now z (c.adding.id-index + 1)) (sym c.plus-stops.ensures)
    (stops_next c.args.store.now c.args.sum.now c.adding.stops c.stops_at.result c.adding.id-index c.adding.invariant lt c.stops_at.ensures)

pub returns : goal.returns
returns c =
    stops_end c.args.store.now c.args.sum.now c.adding.stops c.adding.id-index c.adding.invariant (omega (arith, c.adding-test.false)) c.requires.few
