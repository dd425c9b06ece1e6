use Rattle.std.proofs.Common.{◌≡◌, take}
use Rattle.local_graph.proofs.graph.places_at_length.Given as goal

abbrev pub invariant-loop-place : goal.invariant-loop-place
invariant-loop-place l = l.long.items ≡ take l.place-index l.places
