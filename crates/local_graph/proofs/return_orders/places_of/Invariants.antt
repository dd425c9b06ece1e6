use Rattle.std.proofs.Common.{◌≡◌, map, take}
use Rattle.local_graph.proofs.return_orders.places_of.Given as goal

abbrev pub invariant-loop-rank : goal.invariant-loop-rank
invariant-loop-rank l = l.places.items ≡ map (λ r. r.place) (take l.rank-index l.ranks)
