use Rattle.game_canon.specs.inner.SumComparisons.{recalled_sums}
use Rattle.game_canon.proofs.SumQuestionLaws.{right_more}
use Rattle.game_canon.proofs.sums.remember_sums.Goals as goal

pub returns-clause-noted : goal.returns-clause-noted
returns-clause-noted c = c.in_ok-insert.ensures.updates.0

pub returns-clause-right : goal.returns-clause-right
returns-clause-right c Ts ids tells right = right_more Ts (recalled_sums c.args.memo.now) (recalled_sums c.insert.new.self) c.args.pair c.args.answer ids tells c.in_ok-insert.ensures.updates.0 right
