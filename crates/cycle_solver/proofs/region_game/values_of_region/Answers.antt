use Rattle.cycle_solver.proofs.region_game.values_of_region.Goals as goal

pub values_of_both-both-requires-clause-memo : goal.values_of_both-both-requires-clause-memo
values_of_both-both-requires-clause-memo c = c.new-memo.ensures c.args.store.now c.args.limits.now.parts
