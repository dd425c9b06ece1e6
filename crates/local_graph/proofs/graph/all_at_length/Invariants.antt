use Rattle.std.proofs.Common.{◌≡◌, ◌≤◌, take, length}
use Rattle.local_graph.proofs.graph.all_at_length.Given as goal

abbrev pub invariant-lists : goal.invariant-lists
invariant-lists l = (l.long.items ≡ take l.place l.edges) × (l.place ≤ length l.edges)
