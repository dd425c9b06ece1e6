use Rattle.std.proofs.Common.{refl}
use Rattle.cycle_solver.proofs.SumLaws.{have_places, held_modest, modest_games, told, wins_with}
use Rattle.cycle_solver.proofs.asking.wins_with.Goals as goal

pub fill-requires-clause-places : goal.fill-requires-clause-places
fill-requires-clause-places c = let held = c.requires.seen in have_places held.solved held.at c.args.player c.args.captures

pub wins_sum-requires-clause-games : goal.wins_sum-requires-clause-games
wins_sum-requires-clause-games c =
    let held = c.requires.seen in modest_games held.solved held.at c.args.player (λ k. c.args.captures) c.fill.new.sum c.fill.ensures

pub wins_sum-requires-clause-purses : goal.wins_sum-requires-clause-purses
wins_sum-requires-clause-purses c = held_modest c.requires.seen c.purses.ensures

pub returns-clause-wins : goal.returns-clause-wins
returns-clause-wins c =
    let held = c.requires.seen in
    told c.args.present.now.store.now c.fill.new.sum c.args.present.now.whole.now c.side-side.ensures c.purses.ensures c.wins_sum.ensures.wins
    (wins_with held.solved held.at c.args.player (λ k. c.args.captures) c.fill.new.sum c.fill.ensures (λ r. c.args.captures) (λ k lt. refl))
