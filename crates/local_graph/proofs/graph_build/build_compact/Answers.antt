use Rattle.std.proofs.Common.{arith, ap, sym, ◌∙◌, length, ◌≤◌, ◌≡◌}
use Rattle.std.proofs.lemmas.Result.{err_from_is_err_and}
use Rattle.local_graph.proofs.BuildLemmas.{few_points, rooted, built_or_cycle, ordered_count, refused}
use Rattle.local_graph.proofs.graph_build.build_compact.Goals as goal

pub overflow_cast-result : goal.overflow_cast-result
overflow_cast-result g c =
    let s = c.shape.inside in
    let most = few_points s.size.columns s.size.rows s.points.items s.cells.items s.touch.items
    (s.size.columns_in.1) (s.size.rows_in.1) c.shape.invariant in
    omega (arith, most, c.len-points.ensures, s.points.ok)

pub returns-then-points-gt32-clause-built : goal.returns-then-points-gt32-clause-built
returns-then-points-gt32-clause-built g c =
    let long : c.len-points.result ≡ length c.args.region.now.points = omega (arith, c.len-points.ensures, c.shape.inside.points.ok, ap (λ s. length s.points) c.shape.view_is) in
    (omega (arith, c.if-points-gt32.true, long), long)

pub returns-in_err-walked-clause-built : goal.returns-in_err-walked-clause-built
returns-in_err-walked-clause-built g c =
    let few : length c.args.region.now.points ≤ 32 = omega (arith, c.if-points-gt32.false, c.len-points.ensures, ap (λ s. length s.points) c.shape.view_is) in
    let p = err_from_is_err_and c.from_residual.result c.from_residual.ensures.1 in
    rw (p.1, p.2) (refused c.args.region.now c.args.limit c.explore.new.table.positions.items _ c.in_err-walked.ensures.graph few)

pub returns-in_err-walked-clause-limited : goal.returns-in_err-walked-clause-limited
returns-in_err-walked-clause-limited g c = c.explore.ensures.limited

pub returns-in_err-walked-clause-finite : goal.returns-in_err-walked-clause-finite
returns-in_err-walked-clause-finite g c = c.explore.ensures.finite

pub order_graph-requires-clause-rooted : goal.order_graph-requires-clause-rooted
order_graph-requires-clause-rooted g c = rooted _ _ _ _ c.in_ok-walked.ensures.graph.0

pub order_graph-requires-clause-beside : goal.order_graph-requires-clause-beside
order_graph-requires-clause-beside g c = c.in_ok-walked.ensures.graph.0.beside ∙ ap length (sym c.positions_of.ensures)

pub order_graph-requires-clause-ordered : goal.order_graph-requires-clause-ordered
order_graph-requires-clause-ordered g c = c.in_ok-walked.ensures.graph.2

pub returns-clause-built : goal.returns-clause-built
returns-clause-built g c =
    let few : length c.args.region.now.points ≤ 32 = omega (arith, c.if-points-gt32.false, c.len-points.ensures, ap (λ s. length s.points) c.shape.view_is) in
    let graph = c.in_ok-walked.ensures.graph in
    built_or_cycle c.args.region.now c.args.limit c.positions_of.result.items _ _ (rw c.positions_of.ensures (graph.0, graph.1)) few c.order_graph.ensures

pub returns-clause-limited : goal.returns-clause-limited
returns-clause-limited g c = c.explore.ensures.limited

pub returns-clause-finite : goal.returns-clause-finite
returns-clause-finite g c = c.explore.ensures.finite

pub returns-clause-exact : goal.returns-clause-exact
returns-clause-exact g c = ordered_count _ _ _ _ _ c.order_graph.ensures (omega (arith, c.in_ok-walked.ensures.exact, ap length c.positions_of.ensures))
