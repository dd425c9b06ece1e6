use Rattle.game_canon.specs.SumComparisons.{AreComparisonsRight}
use Rattle.game_tests.proofs.order_tests.wrong_incentives.Given as goal

abbrev pub invariant-rows : goal.invariant-rows
invariant-rows l = AreComparisonsRight l.store l.comparisons
