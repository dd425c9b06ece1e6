use Rattle.std.proofs.Common.{ℕ, ◌<◌, ◌≤◌, length}
use Rattle.std.specs.List.{AllPairs, Contains}
use Rattle.local_graph.proofs.strong_components.join.Given as goal

abbrev pub invariant-joining : goal.invariant-joining
invariant-joining l = record {
  up : AllPairs (λ s t. s < t) l.starts.items;
  kept : (s : ℕ) → Contains l.fn.starts.items s → s ≤ l.place → Contains l.starts.items s;
  of_old : (s : ℕ) → Contains l.starts.items s → Contains l.fn.starts.items s;
}

abbrev pub decreases-joining : goal.decreases-joining
decreases-joining l = length l.starts.items
