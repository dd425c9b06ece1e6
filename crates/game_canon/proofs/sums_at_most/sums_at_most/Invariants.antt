use Rattle.game_canon.specs.inner.SumComparisons.{recalled_sums}
use Rattle.game_canon.proofs.SumQuestionLaws.{AreAsking, sums_work}
use Rattle.game_canon.proofs.sums_at_most.sums_at_most.Given as goal

abbrev pub invariant-asking : goal.invariant-asking
invariant-asking l = AreAsking l.store (recalled_sums l.memo) l.fn.pair l.question l.waiting.items

abbrev pub decreases-asking : goal.decreases-asking
decreases-asking l = sums_work l.store (recalled_sums l.memo) l.question.pair
