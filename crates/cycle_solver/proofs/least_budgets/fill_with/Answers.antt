use Rattle.std.proofs.Common.{arith, get_or}
use Rattle.cycle_solver.proofs.least_budgets.fill_with.Goals as goal

pub bounds-places-k : goal.bounds-places-k
bounds-places-k c = omega (arith, c.regions-test.true, (c.requires.places 0).many, c.len-k-end.ensures)

pub value_with-requires-clause-place : goal.value_with-requires-clause-place
value_with-requires-clause-place c =
    let k = c.regions.k in
    (c.requires.places (get_or c.args.budgets.now k 0)).inside k (omega (arith, c.regions-test.true, c.len-k-end.ensures))
