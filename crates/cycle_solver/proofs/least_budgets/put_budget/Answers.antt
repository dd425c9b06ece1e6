use Rattle.std.proofs.Common.{◌∙◌, arith, get_or}
use Rattle.cycle_solver.specs.GameLists.{game_at}
use Rattle.cycle_solver.specs.Held.{ids_with, place_at}
use Rattle.cycle_solver.proofs.LeastLaws.{budget_put}
use Rattle.cycle_solver.proofs.SumLaws.{have_places}
use Rattle.cycle_solver.proofs.least_budgets.put_budget.Goals as goal

pub value_with-requires-clause-place : goal.value_with-requires-clause-place
value_with-requires-clause-place c =
    let held = c.requires.seen in
    (have_places held.solved held.at c.side-side.result c.args.budget).inside c.args.k (omega (arith, c.requires.known, held.solved.many))

pub returns : goal.returns
returns c =
    let held = c.requires.seen in
    let k = c.args.k in
    let places = c.args.present.now.places.now in
    budget_put held c.args.present.now.whole.now.side c.args.budgets.now c.args.sum.now k c.args.budget c.value_with.result c.requires.but.0 c.requires.known
    c.requires.many c.requires.but.1
    (c.value_with.ensures ∙ (λ i. get_or (ids_with (game_at c.args.present.now.games.now k) (c.side-side.ensures i) c.args.budget) (place_at places k) 0))
