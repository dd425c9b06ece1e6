use Rattle.sum_outcome.specs.Memo.{Fits}
use Rattle.game_tests.proofs.plain_sum_tests.wrong_sum.Given as goal

abbrev pub invariant-sums : goal.invariant-sums
invariant-sums l = Fits l.store l.search
