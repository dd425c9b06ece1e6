use Rattle.std.proofs.Common.{refl}
use Rattle.game_canon.specs.inner.SumComparisons.{recalled_sums}
use Rattle.game_canon.proofs.SumBoundLaws.{same-within}
use Rattle.game_canon.proofs.SumQuestionLaws.{right_tells}
use Rattle.game_canon.proofs.sums_at_most.known_sums.Goals as goal

pub returns-then-is_same-clause-some : goal.returns-then-is_same-clause-some
returns-then-is_same-clause-some c = (λ _. same-within c.args.store.now c.args.pair (c.is_same.ensures c.if-is_same.true), λ _. refl)

pub returns-clause-some : goal.returns-clause-some
returns-clause-some c = right_tells c.args.store.now (recalled_sums c.args.memo.now) c.args.pair c.recall_sums.result c.requires.right c.recall_sums.ensures
