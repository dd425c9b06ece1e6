use Rattle.std.proofs.Common.{ℕ, length, ◌≤◌, ◌-◌, List}
use Rattle.local_graph.specs.declared.graph.Edge.{Edge}
use Rattle.local_graph.specs.inner.Graph.{lists_of, AreWithin}
use Rattle.local_graph.specs.inner.Found.{AreAwaited}
use Rattle.local_graph.proofs.graph_build.await_new.Given as goal

abbrev pub invariant-awaiting : goal.invariant-awaiting
invariant-awaiting l = record {
  awaited : (edges : List Edge) → AreAwaited (lists_of edges l.fn.spans.items) l.fn.visits.items (length l.spans.items) (lists_of edges l.spans.items) l.visits.items;
  within : (edges : ℕ) → AreWithin edges l.fn.spans.items → AreWithin edges l.spans.items;
  most : length l.spans.items ≤ l.count;
}

abbrev pub decreases-awaiting : goal.decreases-awaiting
decreases-awaiting l = l.count - length l.spans.items
