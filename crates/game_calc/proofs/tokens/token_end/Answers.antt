use Rattle.std.proofs.Common.{inl, inr, arith}
use Rattle.game_calc.proofs.TokenSteps.{running-end}
use Rattle.game_calc.proofs.tokens.token_end.Goals as goal

pub returns-then-text-at-eq32-clause-token : goal.returns-then-text-at-eq32-clause-token
returns-then-text-at-eq32-clause-token c = (running-end c.args.text.now c.args.start c.running.at c.running.invariant (inr c.if-text-at-eq32.true)).0

pub returns-then-text-at-eq32-clause-behind : goal.returns-then-text-at-eq32-clause-behind
returns-then-text-at-eq32-clause-behind c = (running-end c.args.text.now c.args.start c.running.at c.running.invariant (inr c.if-text-at-eq32.true)).1

pub returns-clause-token : goal.returns-clause-token
returns-clause-token c = (running-end c.args.text.now c.args.start c.running.at c.running.invariant (inl (omega (arith, c.running-test.false)))).0

pub returns-clause-behind : goal.returns-clause-behind
returns-clause-behind c = (running-end c.args.text.now c.args.start c.running.at c.running.invariant (inl (omega (arith, c.running-test.false)))).1
