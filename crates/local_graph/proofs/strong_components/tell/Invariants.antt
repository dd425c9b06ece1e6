use Rattle.std.proofs.Common.{◌≤◌, length}
use Rattle.local_graph.specs.inner.Telling.{TellsFrom}
use Rattle.local_graph.proofs.strong_components.tell.Given as goal

abbrev pub invariant-telling : goal.invariant-telling
invariant-telling l = record {
  tells : TellsFrom l.fn.waiting.items l.fn.marks (length l.waiting.items) l.number l.waiting.items l.marks;
  most : length l.waiting.items ≤ length l.fn.waiting.items;
  within : l.at ≤ length l.waiting.items;
}

abbrev pub decreases-telling : goal.decreases-telling
decreases-telling l = length l.waiting.items
