use Rattle.sgf_go.specs.inner.Territory.{marking}
use Rattle.sgf_go.proofs.SealLemmas.{edges_are}
use Rattle.sgf_go.proofs.territory.edges.Goals as goal

pub returns : goal.returns
returns c = edges_are c.args.board.now (marking c.args.marks.now) (record { black = c.edge_of.result; white = c.edge_of-2.result }) c.edge_of.ensures c.edge_of-2.ensures
