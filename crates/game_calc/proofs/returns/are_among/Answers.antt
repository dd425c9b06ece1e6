use Rattle.game_calc.specs.inner.Returns.{Stands}
use Rattle.game_calc.proofs.ReturnSteps.{one-more}
use Rattle.game_calc.proofs.returns.are_among.Goals as goal

pub passing-preserved : goal.passing-preserved
passing-preserved c = one-more (Stands c.args.others.now) c.args.ids.now c.passing.id-index c.passing.invariant (c.stands.ensures c.if-not-stands.false)
