use Rattle.std.proofs.Common.{arith}
use Rattle.cycle_solver.proofs.SumLaws.{held_modest, modest_games, told, wins}
use Rattle.cycle_solver.proofs.asking.wins.Goals as goal

pub wins_sum-requires-clause-games : goal.wins_sum-requires-clause-games
wins_sum-requires-clause-games c = let held = c.requires.seen.0 in modest_games held.solved held.at c.args.player (λ k. 255) c.args.sum.now c.requires.seen.1

pub wins_sum-requires-clause-purses : goal.wins_sum-requires-clause-purses
wins_sum-requires-clause-purses c = held_modest c.requires.seen.0 c.purses.ensures

pub returns-clause-wins : goal.returns-clause-wins
returns-clause-wins c =
    let held = c.requires.seen.0 in
    told c.args.present.now.store.now c.args.sum.now c.args.present.now.whole.now c.side-side.ensures c.purses.ensures c.wins_sum.ensures.wins (wins held.solved held.at c.args.player 255 c.args.sum.now c.requires.seen.1 (omega arith))
