use Rattle.std.proofs.Common.{◌≡◌, ◌≤◌, length}
use Rattle.local_graph.specs.inner.PlaceTable.{AreEntered}
use Rattle.local_graph.proofs.place_table.PlaceTable.make_slots.Given as goal

abbrev pub invariant-filling : goal.invariant-filling
invariant-filling l = record {
  positions : l.self.positions.items ≡ l.fn.self.positions.items;
  numbers : l.self.numbers ≡ l.fn.self.numbers;
  enough : l.self.numbers ≤ length l.self.slots.items;
  entered : AreEntered l.self.positions.items l.self.slots.items l.place;
}
