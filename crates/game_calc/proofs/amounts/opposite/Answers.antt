use Rattle.std.proofs.Common.{subst}
use Rattle.game_calc.specs.inner.Amounts.{IsAmount}
use Rattle.game_calc.proofs.AmountSteps.{opposite-known, opposite-large}
use Rattle.game_calc.proofs.amounts.opposite.Goals as goal

pub returns-in_ok-negate-in-Known-clause-amount : goal.returns-in_ok-negate-in-Known-clause-amount
returns-in_ok-negate-in-Known-clause-amount c = λ limit E h.
    opposite-known c.args.store.now c.negate.new.store limit E c.in-Known.id c.in_ok-negate-in-Known.field-0 (subst (IsAmount c.args.store.now limit E) c.in-Known.is h) c.in_ok-negate-in-Known.ensures.value

pub returns-in-TooLarge-clause-amount : goal.returns-in-TooLarge-clause-amount
returns-in-TooLarge-clause-amount c = λ limit E h. opposite-large c.args.store.now c.args.store.now limit E (subst (IsAmount c.args.store.now limit E) c.in-TooLarge.is h)

pub returns-in_ok-negate-in-Known-clause-kept : goal.returns-in_ok-negate-in-Known-clause-kept
returns-in_ok-negate-in-Known-clause-kept c = c.negate.ensures.kept

pub returns-in_err-negate-in-Known-clause-kept : goal.returns-in_err-negate-in-Known-clause-kept
returns-in_err-negate-in-Known-clause-kept c = c.negate.ensures.kept
