use Rattle.game_calc.specs.inner.Returns.{IsMet}
use Rattle.game_calc.proofs.ReturnSteps.{one-more}
use Rattle.game_calc.proofs.returns.are_met.Goals as goal

pub passing-preserved : goal.passing-preserved
passing-preserved c = one-more (IsMet c.args.store.now c.args.side c.args.near.now c.args.x) c.args.ids.now c.passing.id-index c.passing.invariant (c.is_met.ensures c.if-not-is_met.false)
