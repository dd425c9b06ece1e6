use Rattle.std.proofs.Common.{◌≡◌, length}
use Rattle.local_value.specs.inner.Layers.{AreMarked}
use Rattle.local_value.proofs.layer_edges.returning_places.Given as goal

abbrev pub invariant-marking : goal.invariant-marking
invariant-marking l = record {
  long : length l.marks.items ≡ l.place;
  marked : AreMarked l.owner l.graph l.marks.items;
}
