use Rattle.game_calc.specs.inner.Returns.{AreMet}
use Rattle.game_calc.proofs.returns.are_met.Given as goal

abbrev pub invariant-passing : goal.invariant-passing
invariant-passing l = AreMet l.store l.side l.near l.x l.ids l.id-index
