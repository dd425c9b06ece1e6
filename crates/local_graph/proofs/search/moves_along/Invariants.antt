use Rattle.std.proofs.Common.{◌≡◌, map, take}
use Rattle.local_graph.specs.inner.Built.{move_of}
use Rattle.local_graph.specs.inner.Graph.{edge_at}
use Rattle.local_graph.proofs.search.moves_along.Given as goal

abbrev pub invariant-loop-frame : goal.invariant-loop-frame
invariant-loop-frame l = l.moves ≡ map (λ f. move_of (edge_at l.edges f.node f.left)) (take l.frame-index l.path)
