use Rattle.std.proofs.Common.{arith, ap, ◌∙◌, length, ◌≤◌, ◌≡◌}
use Rattle.local_graph.proofs.BuildLemmas.{few_points, rooted}
use Rattle.local_graph.proofs.ReturnGraphLemmas.{built_with_returns}
use Rattle.local_graph.proofs.return_graph.build_with_returns.Goals as goal

pub overflow_cast-result : goal.overflow_cast-result
overflow_cast-result g c =
    let s = c.shape.inside in
    let most = few_points s.size.columns s.size.rows s.points.items s.cells.items s.touch.items
    (s.size.columns_in.1) (s.size.rows_in.1) c.shape.invariant in
    omega (arith, most, c.len-points.ensures, s.points.ok)

pub tell_returns-requires-clause-rooted : goal.tell_returns-requires-clause-rooted
tell_returns-requires-clause-rooted g c = rooted _ _ _ _ c.in_ok-walked.ensures.graph.0

pub tell_returns-requires-clause-ordered : goal.tell_returns-requires-clause-ordered
tell_returns-requires-clause-ordered g c = c.in_ok-walked.ensures.graph.2

pub returns-clause-built : goal.returns-clause-built
returns-clause-built g c =
    let points = ap (λ s. length s.points) c.shape.view_is in
    let cells = ap (λ s. length s.cells) c.shape.view_is in
    let few : length c.args.region.now.points ≤ 32 = omega (arith, c.if-points-gt32.false, c.len-points.ensures, points) in
    let full : length c.args.region.now.cells ≡ length c.args.region.now.points = omega (arith, c.shape.invariant.full, points, cells) in
    let graph = c.in_ok-walked.ensures.graph in
    built_with_returns _ _ _ (length c.args.region.now.points) _ _ _ _ (graph.0, graph.1) few full c.positions_of.ensures c.in_ok-graph.ensures

pub returns-clause-exact : goal.returns-clause-exact
returns-clause-exact g c = omega (arith, c.in_ok-walked.ensures.exact, ap length (c.in_ok-graph.ensures.positions_are ∙ c.positions_of.ensures))
