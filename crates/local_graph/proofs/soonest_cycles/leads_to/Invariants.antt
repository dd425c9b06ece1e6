use Rattle.std.proofs.Common.{◌<◌, take, length}
use Rattle.local_graph.specs.inner.Searching.{Trail}
use Rattle.local_graph.proofs.soonest_cycles.leads_to.Given as goal

abbrev pub invariant-going : goal.invariant-going
invariant-going l = Trail l.edges 0 (take l.frame-index l.path) l.at × (l.at < length l.edges)
