use Rattle.std.proofs.Common.{subst}
use Rattle.game_calc.specs.inner.Amounts.{IsAmount}
use Rattle.game_calc.proofs.AmountSteps.{first-large, second-large}
use Rattle.game_calc.proofs.amounts.sum_of.Goals as goal

pub returns-in-TooLarge-clause-amount : goal.returns-in-TooLarge-clause-amount
returns-in-TooLarge-clause-amount c = λ E F f s. first-large c.args.store.now c.args.store.now c.args.parts_limit E F (subst (IsAmount c.args.store.now c.args.parts_limit E) c.in-TooLarge.is f)

pub returns-in-TooLarge-second-clause-amount : goal.returns-in-TooLarge-second-clause-amount
returns-in-TooLarge-second-clause-amount c = λ E F f s. second-large c.args.store.now c.args.store.now c.args.parts_limit E F (subst (IsAmount c.args.store.now c.args.parts_limit F) c.in-TooLarge-second.is s)

pub returns-in-Known-second-clause-held : goal.returns-in-Known-second-clause-held
returns-in-Known-second-clause-held c = c.known_sum.ensures.held

pub returns-in-Known-second-clause-kept : goal.returns-in-Known-second-clause-kept
returns-in-Known-second-clause-kept c = c.known_sum.ensures.kept
