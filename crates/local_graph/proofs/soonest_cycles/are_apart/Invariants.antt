use Rattle.std.proofs.Common.{◌≢◌, take}
use Rattle.std.specs.List.{AllPairs}
use Rattle.local_graph.specs.inner.Searching.{nodes_of}
use Rattle.local_graph.proofs.soonest_cycles.are_apart.Given as goal

abbrev pub invariant-comparing : goal.invariant-comparing
invariant-comparing l = AllPairs (λ a b. a ≢ b) (nodes_of (take l.place l.path))
