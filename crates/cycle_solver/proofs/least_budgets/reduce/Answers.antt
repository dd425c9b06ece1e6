use Rattle.std.proofs.Common.{subst, sym}
use Rattle.cycle_solver.specs.Held.{AreSummed, enough}
use Rattle.cycle_solver.proofs.SumLaws.{have_places, one_sum}
use Rattle.cycle_solver.proofs.least_budgets.reduce.Goals as goal

pub fill_with-requires-clause-places : goal.fill_with-requires-clause-places
fill_with-requires-clause-places c = let held = c.requires.seen.0 in have_places held.solved held.at c.side-side.result

pub fill-requires-clause-places : goal.fill-requires-clause-places
fill-requires-clause-places c = let held = c.requires.seen.0 in have_places held.solved held.at c.side-side.result 255

pub returns-clause-same : goal.returns-clause-same
returns-clause-same c =
    let seen = c.args.present.now in
    one_sum c.fill.ensures
    (subst (λ d. AreSummed seen.games.now seen.places.now d enough c.args.sum.now) (sym c.side-side.ensures) c.requires.seen.1)
