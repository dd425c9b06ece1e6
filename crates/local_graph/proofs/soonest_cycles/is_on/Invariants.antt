use Rattle.std.proofs.Common.{◌≢◌, ◌<◌, get_or, ℕ}
use Rattle.local_graph.specs.inner.Searching.{nodes_of}
use Rattle.local_graph.proofs.soonest_cycles.is_on.Given as goal

abbrev pub invariant-looking : goal.invariant-looking
invariant-looking l = (k : ℕ) → k < l.frame-index → get_or (nodes_of l.path) k 0 ≢ l.node
