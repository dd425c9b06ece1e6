use Rattle.local_graph.proofs.EdgeListLemmas.{node_inside}
use Rattle.local_graph.proofs.edge_lists.EdgeLists.edge.Goals as goal

pub at-requires : goal.at-requires
at-requires c = node_inside _ _ _ c.requires
