use Rattle.std.proofs.Common.{◌≡◌, ◌≤◌, take, length}
use Rattle.local_graph.proofs.graph.at_length.Given as goal

abbrev pub invariant-listing : goal.invariant-listing
invariant-listing l = (l.long ≡ take l.number l.edges) × (l.number ≤ length l.edges)
