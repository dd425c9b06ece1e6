use Rattle.std.proofs.Common.{arith, subst, sym, take, ◌+◌, ◌<◌}
use Rattle.report.specs.inner.Trial.{AreTogether}
use Rattle.report.proofs.TrialLaws.{together_more}
use Rattle.report.proofs.trial.positions.Goals as goal

pub adding-preserved : goal.adding-preserved
adding-preserved c =
    let game = c.args.solved.now in
    let is = c.region_report.ensures.report in
    let more = together_more game.regions c.adding.number c.adding.total c.region_report.result.positions c.adding.invariant.0
    (subst (λ n. c.adding.number < n) c.regions-number-end.ensures c.adding-test.true) is.positions in (
      subst (λ n. AreTogether (take (c.adding.number + 1) game.regions) (c.adding.total + n)) (sym c.from-total.ensures) more,
      omega (arith, c.adding.invariant.1, c.from-total.ensures, c.region_report.type_inv),
    )
