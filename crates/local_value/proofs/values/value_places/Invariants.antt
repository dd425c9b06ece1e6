use Rattle.go_grid.specs.Region.{Region}
use Rattle.game_store.specs.Meaning.{Extends}
use Rattle.local_value.specs.inner.Memo.{IsMemoRight}
use Rattle.local_trees.specs.GraphPlaces.{IsGraphOf}
use Rattle.local_value.proofs.PassLaws.{IsPass}
use Rattle.local_value.proofs.values.value_places.Given as goal

abbrev pub invariant-valuing : goal.invariant-valuing
invariant-valuing l = record {
  kept : Extends l.fn.store l.store;
  pass : (r : Region) → IsGraphOf r l.graph → IsPass r l.graph l.parts_limit l.store l.ids.items l.place-index;
  memo : IsMemoRight l.store l.parts_limit l.memo;
}
