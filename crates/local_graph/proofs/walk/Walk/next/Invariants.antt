use Rattle.std.proofs.Common.{length, None}
use Rattle.local_graph.specs.inner.Walk.{AreInside, Goes}
use Rattle.local_graph.proofs.walk.Walk.next.Given as goal

abbrev pub invariant-passing : goal.invariant-passing
invariant-passing l = record {
  inside : AreInside l.self.visits.items l.self.tasks.items;
  goes : Goes l.fn.self l.fn.self.tasks.items l.self None;
}

abbrev pub decreases-passing : goal.decreases-passing
decreases-passing l = length l.self.tasks.items
