use Rattle.std.proofs.Common.{take, Contains}
use Rattle.local_graph.specs.declared.graph.Edge.{Edge}
use Rattle.local_graph.specs.inner.Graph.{edges_at}
use Rattle.local_graph.specs.ReturnGraph.{IsReturningCaptureAt}
use Rattle.local_value.proofs.layer_edges.has_returning_capture.Given as goal

abbrev pub invariant-looking : goal.invariant-looking
invariant-looking l = (e : Edge) → Contains (take l.number (edges_at l.graph.edges l.place)) e → ¬ IsReturningCaptureAt l.owner l.graph.components l.place e
