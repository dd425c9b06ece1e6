use Rattle.local_graph.proofs.PathLemmas.{path_returns}
use Rattle.local_graph.proofs.search.cycle_of.Goals as goal

pub returns : goal.returns
returns c = path_returns _ _ _ _ _ c.requires c.place_on-start.ensures.inside c.place_on-start.ensures.there c.in_ok-moves.ensures
