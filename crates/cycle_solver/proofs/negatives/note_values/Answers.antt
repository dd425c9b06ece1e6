use Rattle.std.proofs.Common.{◌+◌, ◌-◌, ◌<◌, ◌≡◌, ◌∙◌, [], arith, below_more, get_or, length, subst}
use Rattle.cycle_solver.specs.inner.Shared.{AreNotedIn}
use Rattle.cycle_solver.proofs.NoteLaws.{noted_in-on, noted_more, served_own}
use Rattle.cycle_solver.proofs.negatives.note_values.Goals as goal

pub budgets-preserved : goal.budgets-preserved
budgets-preserved c =
    let layers = c.args.values.now in
    let j = c.budgets.budget in
    let n = c.in_ok-note_layer.ensures in
    let inside : j < length layers = omega (arith, c.budgets-test.true, c.budget-budget-end.ensures) in
    let layer = c.as_slice.ensures ∙ c.with.ensures ∙ served_own layers j inside in
    noted_more (λ known j. AreNotedIn known (get_or layers j [])) c.args.known.now c.args.store.now c.budgets.known c.note_layer.new.known c.budgets.store
    c.note_layer.new.store j (λ i. noted_in-on c.budgets.known c.note_layer.new.known (get_or layers i []) n.keeps) c.budgets.invariant
    (subst (AreNotedIn c.note_layer.new.known) layer n.noted) n.keeps n.right n.long n.kept

pub returns-clause-noted : goal.returns-clause-noted
returns-clause-noted c =
    let layers = c.args.values.now in
    let n = c.in_ok-note_layer-2.ensures in
    let steady = c.budget-budget-end.result in
    let many : steady + 1 ≡ length layers = c.budget-budget-end.ensures in
    let last = c.as_slice-2.ensures ∙ c.values.ensures ∙ served_own layers (length layers - 1) (omega (arith, many)) in
    let end : length layers - 1 ≡ steady = omega (arith, many) in
    let known = c.note_layer-2.new.known in
    λ j lt. below_more (λ j. AreNotedIn known (get_or layers j [])) steady
    (λ j less. noted_in-on c.budgets.known known (get_or layers j []) n.keeps (c.budgets.invariant.noted j (omega (arith, less, c.budgets-test.false))))
    (subst (λ k. AreNotedIn known (get_or layers k [])) end (subst (AreNotedIn known) last n.noted)) j (omega (arith, lt, many))
