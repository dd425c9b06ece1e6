use Rattle.game_canon.specs.inner.SumComparisons.{recalled_sums}
use Rattle.game_canon.proofs.SumQuestionLaws.{sums_ask, sums_answer, sums_smaller}
use Rattle.game_canon.proofs.sums_at_most.sums_at_most.Goals as goal

pub asking-preserved-in-Ask : goal.asking-preserved-in-Ask
asking-preserved-in-Ask c = sums_ask c.args.store.now (recalled_sums c.asking.memo) c.args.pair c.asking.question c.in-Ask.rest c.in-Ask.next c.begun-question-in-Ask.result c.asking.waiting.items c.push.new.self.items c.asking.invariant c.in-Ask.ensures c.in_ok-push-in-Ask.ensures.items c.begun-question-in-Ask.ensures.pair (c.begun-question-in-Ask.ensures.resisted c.args.store.now)

pub asking-smaller : goal.asking-smaller
asking-smaller c = sums_smaller c.args.store.now (recalled_sums c.asking.memo) (recalled_sums c.remember_sums.new.memo) c.args.pair c.asking.question c.in-Some-pop.next c.asking.waiting.items c.pop.new.self.items c.in-Answer.answer c.asking.invariant c.in_ok-remember_sums-in-Answer.ensures.noted c.in-Some-pop.ensures.items

pub asking-preserved : goal.asking-preserved
asking-preserved c = sums_answer c.args.store.now (recalled_sums c.asking.memo) (recalled_sums c.remember_sums.new.memo) c.args.pair
    c.asking.question c.in-Some-pop.next c.asking.waiting.items c.pop.new.self.items c.in-Answer.answer c.asking.invariant
    c.in_ok-remember_sums-in-Answer.ensures.noted c.in-Some-pop.ensures.items c.in-Answer.ensures

pub returns-in-None-clause-right : goal.returns-in-None-clause-right
returns-in-None-clause-right c = c.remember_sums.ensures.right c.args.store.now c.asking.invariant.now.ids c.in-Answer.ensures c.asking.invariant.right

pub returns-in_err-remember_sums-in-Answer-clause-right : goal.returns-in_err-remember_sums-in-Answer-clause-right
returns-in_err-remember_sums-in-Answer-clause-right c = c.remember_sums.ensures.right c.args.store.now c.asking.invariant.now.ids
    c.in-Answer.ensures c.asking.invariant.right
