use Rattle.endgame_solver.proofs.WinningLaws.{by_search, held_bounds, held_modest}
use Rattle.endgame_solver.proofs.winning_moves.mover_loses.Goals as goal

pub balance_of-balance-requires : goal.balance_of-balance-requires
balance_of-balance-requires c = held_modest c.requires.seen c.purses.ensures

pub loses-requires-clause-bounds : goal.loses-requires-clause-bounds
loses-requires-clause-bounds c = held_bounds c.requires.seen (held_modest c.requires.seen c.purses.ensures) c.balance_of-balance.ensures

pub returns-clause-loses : goal.returns-clause-loses
returns-clause-loses c =
    by_search c.requires.seen.kept c.side-side.ensures c.purses.ensures c.balance_of-balance.ensures c.loses.ensures.answer
