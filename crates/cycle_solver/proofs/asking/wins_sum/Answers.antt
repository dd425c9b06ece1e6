use Rattle.cycle_solver.proofs.SumLaws.{mover_wins, other_wins, sum_bounded}
use Rattle.std.proofs.lemmas.Bool.{both_ways}
use Rattle.cycle_solver.proofs.asking.wins_sum.Goals as goal

pub loses-lost-requires-clause-bounds : goal.loses-lost-requires-clause-bounds
loses-lost-requires-clause-bounds c = sum_bounded c.requires.games c.requires.purses c.balance_of.ensures

pub returns-then-is-clause-wins : goal.returns-then-is-clause-wins
returns-then-is-clause-wins c =
    mover_wins c.args.store.now c.args.sum.now c.args.purses c.balance_of.ensures c.args.side c.args.player c.loses-lost.ensures.answer c.is_not.ensures (c.is.ensures.0 c.if-is.true)

pub returns-clause-wins : goal.returns-clause-wins
returns-clause-wins c =
    other_wins c.args.store.now c.args.sum.now c.args.purses c.balance_of.ensures c.args.side c.args.player c.loses-lost.ensures.answer (λ e. both_ways c.is.result c.if-is.false (c.is.ensures.1 e))
