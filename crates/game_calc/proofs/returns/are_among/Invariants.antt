use Rattle.game_calc.specs.inner.Returns.{AreAmong}
use Rattle.game_calc.proofs.returns.are_among.Given as goal

abbrev pub invariant-passing : goal.invariant-passing
invariant-passing l = AreAmong l.ids l.others l.id-index
