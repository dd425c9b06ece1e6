use Rattle.game_canon.proofs.ChangedIdLaws.{extends-on}
use Rattle.std.proofs.Common.{subst, sym}
use Rattle.std.specs.Prelude.{Option}
use Rattle.std.proofs.lemmas.Result.{IfOk-weaker}
use Rattle.game_calc.specs.inner.Amounts.{IsAmount, IsBefore}
use Rattle.game_calc.specs.Expression.{Expression, signed, with_term}
use Rattle.game_calc.specs.Expression.Expression.{sum}
use Rattle.game_calc.specs.declared.amounts.Pass.TheVariants.{Sums}
use Rattle.game_calc.proofs.AmountSteps.{none-before, some-before}
use Rattle.game_calc.proofs.LineSteps.{amount-kept}
use Rattle.game_calc.proofs.amounts.sum_with.Goals as goal

pub returns-in-None-clause-amount : goal.returns-in-None-clause-amount
returns-in-None-clause-amount c = λ o F w f.
    subst (λ z. IsAmount c.signed.new.store c.args.parts_limit (with_term z c.args.opening.sign F) c.in_ok-term.term) (sym (none-before c.args.store.now c.args.parts_limit o c.args.opening.before c.in-None.is w)) (c.in_ok-term.ensures.amount c.args.parts_limit F f)

pub returns-in-Some-clause-amount : goal.returns-in-Some-clause-amount
returns-in-Some-clause-amount c =
    IfOk-weaker c.sum_of.result (λ after. (E F : Expression) → IsAmount c.signed.new.store c.args.parts_limit E c.in-Some.before → IsAmount c.signed.new.store c.args.parts_limit F c.in_ok-term.term → IsAmount c.sum_of.new.store c.args.parts_limit (sum E F) after)
    (λ after. (o : Option Expression) (F : Expression) → IsBefore Sums c.args.store.now c.args.parts_limit o c.args.opening.before → IsAmount c.args.store.now c.args.parts_limit F c.args.term → IsAmount c.sum_of.new.store c.args.parts_limit (with_term o c.args.opening.sign F) after)
    (λ after k o F w f. (
    let e = some-before c.args.store.now c.args.parts_limit o c.args.opening.before c.in-Some.before c.in-Some.is w in
    subst (λ z. IsAmount c.sum_of.new.store c.args.parts_limit (with_term z c.args.opening.sign F) after) (sym e.1)
    (k e.0 (signed c.args.opening.sign F) (amount-kept c.args.store.now c.signed.new.store c.args.parts_limit e.0 c.in-Some.before c.signed.ensures.kept e.2) (c.in_ok-term.ensures.amount c.args.parts_limit F f))
    ))
    c.sum_of.ensures.amount

pub returns-in-Some-clause-held : goal.returns-in-Some-clause-held
returns-in-Some-clause-held c = c.sum_of.ensures.held

pub returns-in-Some-clause-kept : goal.returns-in-Some-clause-kept
returns-in-Some-clause-kept c = extends-on _ _ _ c.signed.ensures.kept c.sum_of.ensures.kept

pub returns-in-None-clause-kept : goal.returns-in-None-clause-kept
returns-in-None-clause-kept c = c.signed.ensures.kept

pub returns-in_err-term-clause-kept : goal.returns-in_err-term-clause-kept
returns-in_err-term-clause-kept c = c.signed.ensures.kept
