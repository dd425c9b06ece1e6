use Rattle.game_calc.proofs.expressions.read_and_sum.Goals as goal

pub returns-clause-asked : goal.returns-clause-asked
returns-clause-asked c = c.read_line-2.ensures.asked

pub returns-clause-refusal : goal.returns-clause-refusal
returns-clause-refusal c = c.read_line-2.ensures.refusal
