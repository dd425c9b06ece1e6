use Rattle.std.proofs.Common.{length}
use Rattle.go_grid.specs.Region.{Region}
use Rattle.game_store.specs.Meaning.{Extends}
use Rattle.local_value.specs.BudgetValues.{IsReturnGraphOf}
use Rattle.local_value.specs.inner.Layers.{AreLayers}
use Rattle.local_value.specs.inner.Memo.{IsMemoRight}
use Rattle.local_value.proofs.LayerPassLaws.{IsLayerPass}
use Rattle.local_value.proofs.budgets.layer.Given as goal

abbrev pub invariant-valuing : goal.invariant-valuing
invariant-valuing l = record {
  kept : Extends l.fn.store l.store;
  pass : (r : Region) → IsReturnGraphOf r l.graph → AreLayers r l.graph l.owner l.parts_limit l.fn.store l.layers
      → IsLayerPass r l.graph l.owner l.parts_limit (length l.layers) l.has_budget l.store l.ids.items l.place-index;
  memo : IsMemoRight l.store l.parts_limit l.memo;
}
