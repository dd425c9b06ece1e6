use Rattle.std.proofs.Common.{◌≡◌, ℕ, ◌<◌, get_or}
use Rattle.local_graph.specs.declared.search.Visit.TheVariants.{Placed}
use Rattle.local_graph.specs.inner.Graph.{no_edge}
use Rattle.local_graph.specs.inner.Searching.{visit_at}
use Rattle.local_graph.proofs.search.last_unplaced.Given as goal

abbrev pub invariant-skipping : goal.invariant-skipping
invariant-skipping l = record {
  fewer : l.at < l.fn.left;
  over : (k : ℕ) → l.at < k → k < l.fn.left → visit_at l.visits (get_or l.edges k no_edge).next ≡ Placed;
}

abbrev pub decreases-skipping : goal.decreases-skipping
decreases-skipping l = l.at
