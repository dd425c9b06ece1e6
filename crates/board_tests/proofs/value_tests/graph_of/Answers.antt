use Rattle.std.proofs.Common.{◌≡◌, length, subst}
use Rattle.local_trees.proofs.MoveLaws.{graph_of}
use Rattle.board_tests.proofs.value_tests.graph_of.Goals as goal

pub returns-in-Ok-clause-graph : goal.returns-in-Ok-clause-graph
returns-in-Ok-clause-graph g c = (
  c.args.region.now,
  graph_of c.args.region.now c.in-Ok.graph 1000000 (subst (λ s. length s.cells ≡ length s.points) c.region.view_is c.region.invariant.full) c.in-Ok.ensures.built,
)
