use Rattle.std.proofs.Common.{ℕ, ◌-◌, ◌<◌, ◌≢◌, length, get_or}
use Rattle.local_graph.specs.inner.Searching.{nodes_of}
use Rattle.local_graph.proofs.search.place_on.Given as goal

abbrev pub invariant-looking : goal.invariant-looking
invariant-looking l = (k : ℕ) → k < l.place → get_or (nodes_of l.path) k 0 ≢ l.node

abbrev pub decreases-looking : goal.decreases-looking
decreases-looking l = length l.path - l.place
