use Rattle.std.proofs.Common.{◌∙◌, arith}
use Rattle.game_calc.proofs.TokenSteps.{passing-step, next-other, next-end}
use Rattle.game_calc.proofs.tokens.token_start.Goals as goal

pub passing-preserved : goal.passing-preserved
passing-preserved c = passing-step c.args.text.now c.args.first c.passing.at c.passing.invariant c.passing-test.true c.if-text-at-ne32.false

pub returns-then-text-at-ne32-clause-next : goal.returns-then-text-at-ne32-clause-next
returns-then-text-at-ne32-clause-next c = next-other c.args.text.now c.passing.at c.passing-test.true c.if-text-at-ne32.true ∙ c.passing.invariant.next_is

pub returns-clause-next : goal.returns-clause-next
returns-clause-next c = next-end c.args.text.now c.passing.at (omega (arith, c.passing-test.false)) ∙ c.passing.invariant.next_is
