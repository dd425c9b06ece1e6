use Rattle.std.proofs.Common.{ℕ, ◌+◌, ◌≡◌, ◌≤◌, length}
use Rattle.go_grid.specs.Region.{Region}
use Rattle.game_store.specs.Meaning.{Extends}
use Rattle.local_value.specs.BudgetValues.{IsReturnGraphOf, AreWithinLimits, IsNeeded}
use Rattle.local_value.specs.inner.Layers.{AreLayers}
use Rattle.local_value.specs.inner.Memo.{IsMemoRight}
use Rattle.local_value.proofs.budgets.add_layers.Given as goal

abbrev pub invariant-layers : goal.invariant-layers
invariant-layers l = record {
  kept : Extends l.fn.store l.store;
  many : length l.layers.items ≡ l.budget + 1;
  layers : (r : Region) → IsReturnGraphOf r l.graph → AreLayers r l.graph l.owner l.parts_limit l.store l.layers.items;
  needed : (r : Region) → IsReturnGraphOf r l.graph → IsNeeded r l.owner l.budget;
  limits : (r : Region) → IsReturnGraphOf r l.graph → (k : ℕ) → k ≤ l.budget → AreWithinLimits r l.graph l.owner l.parts_limit k;
  memo : IsMemoRight l.store l.parts_limit l.memo;
}
