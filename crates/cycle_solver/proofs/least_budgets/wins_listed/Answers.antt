use Rattle.std.proofs.Common.{arith, get_or}
use Rattle.cycle_solver.proofs.LeastLaws.{listed_told}
use Rattle.cycle_solver.proofs.SumLaws.{have_places, held_modest, modest_games, one_sum}
use Rattle.cycle_solver.proofs.least_budgets.wins_listed.Goals as goal

pub fill_with-requires-clause-places : goal.fill_with-requires-clause-places
fill_with-requires-clause-places c = let held = c.requires.seen.0 in have_places held.solved held.at c.args.player

pub fill_with-requires-clause-listed : goal.fill_with-requires-clause-listed
fill_with-requires-clause-listed c = omega (arith, c.requires.many, c.requires.seen.0.solved.many)

pub wins_sum-wins-requires-clause-games : goal.wins_sum-wins-requires-clause-games
wins_sum-wins-requires-clause-games c =
    let held = c.requires.seen.0 in
    modest_games held.solved held.at c.args.player (λ k. get_or c.args.budgets.now k 0) c.fill_with.new.sum c.fill_with.ensures

pub wins_sum-wins-requires-clause-purses : goal.wins_sum-wins-requires-clause-purses
wins_sum-wins-requires-clause-purses c = held_modest c.requires.seen.0 c.purses-purses.ensures

pub fill-requires-clause-places : goal.fill-requires-clause-places
fill-requires-clause-places c = let held = c.requires.seen.0 in have_places held.solved held.at c.args.player 255

pub returns-clause-wins : goal.returns-clause-wins
returns-clause-wins c =
    listed_told c.requires.seen.0 c.args.player c.args.budgets.now c.fill_with.new.sum c.fill_with.ensures c.side-side.ensures c.purses-purses.ensures
    c.wins_sum-wins.ensures.wins

pub returns-clause-same : goal.returns-clause-same
returns-clause-same c = one_sum c.fill.ensures c.requires.seen.1
