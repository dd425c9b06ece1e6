use Rattle.std.proofs.Common.{◌≢◌, ◌≤◌, ◌∙◌, ap, arith, subst, sym, None, false}
use Rattle.std.proofs.lemmas.Bool.{both_ways}
use Rattle.go_grid.specs.declared.grid.Colour.TheVariants.{Black, White}
use Rattle.whole_rules.specs.declared.money.Token.TheVariants.{Nobody}
use Rattle.whole_rules.specs.Purses.{halved, paid_out, purse}
use Rattle.cycle_solver.specs.Changes.{IsChange}
use Rattle.cycle_solver.proofs.ChangeLaws.{half_change, spend_change}
use Rattle.cycle_solver.proofs.changes.change_of.Goals as goal

pub halved-requires-clause-black : goal.halved-requires-clause-black
halved-requires-clause-black c = omega (arith, c.requires.modest Black, ap (λ m. m.black) c.purses-in-Half.ensures)

pub halved-requires-clause-white : goal.halved-requires-clause-white
halved-requires-clause-white c = omega (arith, c.requires.modest White, ap (λ m. m.white) c.purses-in-Half.ensures)

pub returns-else-purse-eq0 : goal.returns-else-purse-eq0
returns-else-purse-eq0 c =
    let s = c.args.present.now.whole.now in
    let purse_is = c.purse.ensures ∙ ap (λ d. purse d s.purses) c.side-side.ensures in
    let one : 1 ≤ purse s.side s.purses = omega (arith, c.if-purse-eq0.false, purse_is) in
    subst (λ m. IsChange c.args.present.now m (record { stone = None; uses = false; purses = c.paid_out.result })) (sym c.in-Spend.is)
    (spend_change c.args.present.now c.requires one (c.paid_out.ensures ∙ (λ i. paid_out (c.side-side.ensures i) (c.purses.ensures i))))

pub returns-else-is_nobody : goal.returns-else-is_nobody
returns-else-is_nobody c =
    let s = c.args.present.now.whole.now in
    let some : s.purses.token ≢ Nobody = λ e. both_ways c.is_nobody.result c.if-is_nobody.false (c.is_nobody.ensures.1 (c.token.ensures ∙ e)) in
    subst (λ m. IsChange c.args.present.now m (record { stone = None; uses = false; purses = c.halved.result })) (sym c.in-Half.is)
    (half_change c.args.present.now c.requires some (c.halved.ensures ∙ (λ i. halved (c.side-side.ensures i) (c.purses-in-Half.ensures i))))
