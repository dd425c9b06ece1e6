use Rattle.std.proofs.Common.{◌≡◌, ◌<◌, ℕ, length, get_or}
use Rattle.local_graph.specs.declared.return_orders.Rank.{Rank}
use Rattle.local_graph.specs.inner.Ranks.{IsRank}
use Rattle.local_graph.proofs.return_orders.ranks.Given as goal

abbrev pub invariant-loop-place : goal.invariant-loop-place
invariant-loop-place l = record {
  long : length l.ranks.items ≡ l.place;
  each : (i : ℕ) (r : Rank) → i < l.place → get_or l.ranks.items i r ≡ r
      → IsRank l.colour (get_or l.positions i 0) (get_or l.components i 0) i r;
}
