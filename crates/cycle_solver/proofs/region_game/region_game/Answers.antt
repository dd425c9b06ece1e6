use Rattle.std.proofs.lemmas.Result.{err_from_is_err_and}
use Rattle.cycle_solver.proofs.region_game.region_game.Goals as goal

pub returns-in_err-graph-clause-refusal : goal.returns-in_err-graph-clause-refusal
returns-in_err-graph-clause-refusal g c =
    let p = err_from_is_err_and c.from_residual.result c.from_residual.ensures.1 in
    rw (p.1, p.2) (c.in_err-graph.ensures.refusal c.args.most)
