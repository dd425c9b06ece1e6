use Rattle.std.proofs.Common.{take, length}
use Rattle.local_graph.specs.inner.Graph.{edges_at}
use Rattle.local_value.specs.inner.Layers.{AreFollowed}
use Rattle.local_value.proofs.layer_edges.list_followed.Given as goal

abbrev pub invariant-listing : goal.invariant-listing
invariant-listing l =
    AreFollowed l.owner l.graph.components l.place (length l.graph.positions) l.has_budget (take l.number (edges_at l.graph.edges l.place)) l.followed_edges
