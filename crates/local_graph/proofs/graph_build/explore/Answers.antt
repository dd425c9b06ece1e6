use Rattle.local_graph.proofs.WalkSteps.{graph_walked}
use Rattle.std.proofs.lemmas.Result.{err_from_is_err_and}
use Rattle.local_graph.proofs.graph_build.explore.Goals as goal

pub returns-in_err-found-clause-graph : goal.returns-in_err-found-clause-graph
returns-in_err-found-clause-graph g c = let p = err_from_is_err_and c.from_residual.result c.from_residual.ensures.1 in rw (p.1, p.2) c.in_err-found.ensures

pub explore_new-requires-clause-under_way : goal.explore_new-requires-clause-under_way
explore_new-requires-clause-under_way g c = c.in_ok-found.ensures.0

pub explore_new-requires-clause-all : goal.explore_new-requires-clause-all
explore_new-requires-clause-all g c = c.in_ok-found.ensures.1

pub returns-in_err-explore_new-clause-graph : goal.returns-in_err-explore_new-clause-graph
returns-in_err-explore_new-clause-graph g c =
    let p = err_from_is_err_and c.from_residual-in_err-explore_new.result c.from_residual-in_err-explore_new.ensures.1 in
    rw (p.1, p.2) c.in_err-explore_new.ensures.ended

pub returns-in_err-explore_new-clause-limited : goal.returns-in_err-explore_new-clause-limited
returns-in_err-explore_new-clause-limited g c = c.explore_new.ensures.limited

pub returns-in_err-explore_new-clause-finite : goal.returns-in_err-explore_new-clause-finite
returns-in_err-explore_new-clause-finite g c = c.explore_new.ensures.finite

pub of-requires : goal.of-requires
of-requires g c = c.in_ok-explore_new.ensures.ended.2

pub returns-clause-graph : goal.returns-clause-graph
returns-clause-graph g c =
    let e = c.in_ok-explore_new.ensures.ended in
    graph_walked _ _ _ _ _ _ c.explore_new.new.found.walk _ c.of.ensures c.into_order.ensures e.0 e.1 e.3

pub returns-clause-limited : goal.returns-clause-limited
returns-clause-limited g c = c.explore_new.ensures.limited

pub returns-clause-finite : goal.returns-clause-finite
returns-clause-finite g c = c.explore_new.ensures.finite

pub returns-clause-exact : goal.returns-clause-exact
returns-clause-exact g c = c.in_ok-explore_new.ensures.exact
