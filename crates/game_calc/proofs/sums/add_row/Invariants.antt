use Rattle.game_canon.specs.FormComparisons.{AreFormComparisonsRight}
use Rattle.game_calc.specs.inner.Returns.{IsSmall}
use Rattle.game_calc.specs.inner.Table.{noted}
use Rattle.game_calc.proofs.TableSteps.{IsRow}
use Rattle.game_calc.proofs.sums.add_row.Given as goal

abbrev pub invariant-adding : goal.invariant-adding
invariant-adding l = record { table : IsRow l.fn.store l.store l.parts_limit l.a (noted l.fn.sums) (noted l.sums) l.places l.place-index; comparisons : AreFormComparisonsRight l.store l.comparisons; small : IsSmall l.store l.parts_limit l.latest }
