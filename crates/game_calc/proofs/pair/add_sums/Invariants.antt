use Rattle.std.proofs.Common.{take}
use Rattle.game_calc.specs.inner.Table.{noted, beside, AddsSums}
use Rattle.game_calc.proofs.pair.add_sums.Given as goal

abbrev pub invariant-adding : goal.invariant-adding
invariant-adding l = AddsSums (beside (noted l.sums) l.summand l.other) (take l.id-index l.ids) l.fn.found.items l.found.items
