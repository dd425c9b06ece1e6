use Rattle.sum_outcome.proofs.incentives.found_out.Goals as goal

pub compared-requires-2-clause-right : goal.compared-requires-2-clause-right
compared-requires-2-clause-right c = c.make_way.ensures.right c.args.store.now c.compared.ensures.right
