use Rattle.game_canon.specs.FormComparisons.{AreFormComparisonsRight}
use Rattle.game_calc.specs.inner.Returns.{IsSmall}
use Rattle.game_calc.specs.inner.Table.{noted}
use Rattle.game_calc.proofs.TableSteps.{AreRows}
use Rattle.game_calc.proofs.sums.add_all.Given as goal

abbrev pub invariant-adding : goal.invariant-adding
invariant-adding l = record { table : AreRows l.fn.store l.store l.parts_limit (noted l.sums) l.first l.second l.place-index; comparisons : AreFormComparisonsRight l.store l.comparisons; small : IsSmall l.store l.parts_limit l.latest }
