use Rattle.std.proofs.Common.{subst, sym}
use Rattle.std.specs.Prelude.{Option, IfOk}
use Rattle.game_calc.specs.inner.Amounts.{IsTerm, IsBefore}
use Rattle.game_calc.specs.Expression.{Expression, with_term}
use Rattle.game_calc.specs.declared.amounts.Pass.{Pass}
use Rattle.game_calc.proofs.amounts.with_term.Goals as goal

pub returns-in-Grammar-clause-amount : goal.returns-in-Grammar-clause-amount
returns-in-Grammar-clause-amount c = λ o F w f. subst (λ (pass : Pass). IsTerm pass c.args.store.now c.args.parts_limit (with_term o c.args.opening.sign F) c.args.term) (sym c.in-Grammar.is) c.requires.term

pub returns-in-Sums-clause-amount : goal.returns-in-Sums-clause-amount
returns-in-Sums-clause-amount c =
    subst (λ (pass : Pass). IfOk c.sum_with.result (λ after. (o : Option Expression) (F : Expression) → IsBefore pass c.args.store.now c.args.parts_limit o c.args.opening.before → IsTerm pass c.args.store.now c.args.parts_limit F c.args.term
    → IsTerm pass c.sum_with.new.store c.args.parts_limit (with_term o c.args.opening.sign F) after))
    (sym c.in-Sums.is) c.sum_with.ensures.amount

pub returns-in-Sums-clause-held : goal.returns-in-Sums-clause-held
returns-in-Sums-clause-held c = c.sum_with.ensures.held

pub returns-in-Sums-clause-kept : goal.returns-in-Sums-clause-kept
returns-in-Sums-clause-kept c = c.sum_with.ensures.kept
