use Rattle.local_graph.proofs.PathLemmas.{trail_at}
use Rattle.local_graph.proofs.search.moves_along.Goals as goal

pub edge-edge-requires : goal.edge-edge-requires
edge-edge-requires c = trail_at _ _ _ _ _ _ c.requires c.loop-frame-test.true
