use Rattle.sum_outcome.proofs.MemoLaws.{incentives_kept}
use Rattle.sum_outcome.proofs.incentives.is_at_least.Goals as goal

pub returns-in-Some-clause-answer : goal.returns-in-Some-clause-answer
returns-in-Some-clause-answer c = (c.requires.right.0 (c.args.pair, c.in-Some.answer) c.in-Some.ensures.found).1

pub returns-in-Some-clause-right : goal.returns-in-Some-clause-right
returns-in-Some-clause-right c = (λ e among. c.requires.right.0 e (c.recall_incentive.ensures.kept e among), c.requires.right.1)

pub found_out-requires-clause-right : goal.found_out-requires-clause-right
found_out-requires-clause-right c = (λ e among. c.requires.right.0 e (c.recall_incentive.ensures.kept e among), c.requires.right.1)

pub returns-clause-right : goal.returns-clause-right
returns-clause-right c = (
  incentives_kept c.args.store.now c.found_out.new.known.answers.entries c.remember_incentive.new.answers.entries c.args.pair c.in_ok-answer.answer
      (c.requires.ids, c.in_ok-answer.ensures.answer) c.remember_incentive.ensures.kept c.found_out.ensures.right.0,
  c.found_out.ensures.right.1,
)
