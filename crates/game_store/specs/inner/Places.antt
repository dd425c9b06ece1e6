-- What each slot of a store keeps of its form.
use Rattle.std.specs.Prelude.{ℕ, ◌≡◌, ◌<◌, List, length, ℤ, ◌≤ℤ◌}
use Rattle.std.specs.List.{slice_index_or}
use Rattle.dyadic_num.specs.declared.TheConstants.{EXPONENT}
use Rattle.short_games.specs.Tree.{Tree, tree_at}
use Rattle.short_games.specs.Threshold.{IsFloor, IsCeiling}
use Rattle.short_games.specs.Stops.{IsLeftStop, IsRightStop}
use Rattle.game_store.specs.inner.Chain.{slot_at}
use Rattle.game_store.specs.declared.Slot.{Slot}
use Rattle.game_store.specs.Places.{IsFloorRange, IsCeilingRange}

-- the tree has this floor and this ceiling, both within what these can be, and it has both stops
pub record IsPlaced (G : Tree) (floor ceiling : ℤ) : Type 0 where
  pub floor_is : IsFloor EXPONENT G floor
  pub ceiling_is : IsCeiling EXPONENT G ceiling
  pub floor_range : IsFloorRange floor
  pub ceiling_range : IsCeilingRange ceiling
  pub left_stop : (x : ℤ) × IsLeftStop EXPONENT G x
  pub right_stop : (x : ℤ) × IsRightStop EXPONENT G x

-- the floor that the slot at a place keeps
abbrev pub floor_at : List Slot → ℕ → ℤ
floor_at slots k = (slot_at slots k).floor

-- the ceiling that the slot at a place keeps
abbrev pub ceiling_at : List Slot → ℕ → ℤ
ceiling_at slots k = (slot_at slots k).ceiling

-- each slot keeps the floor and the ceiling of its tree
abbrev pub ArePlaced : List Tree → List Slot → Type 0
ArePlaced Ts slots = (k : ℕ) → k < length slots → IsPlaced (tree_at Ts k) (floor_at slots k) (ceiling_at slots k)

-- x is the greatest of the floors of the ids
pub record IsGreatestFloor (slots : List Slot) (is : List ℕ) (x : ℤ) : Type 0 where
  pub bound : (j : ℕ) → j < length is → floor_at slots (slice_index_or is j 0) ≤ℤ x
  pub reached : (j : ℕ) × (j < length is) × (floor_at slots (slice_index_or is j 0) ≡ x)

-- x is the least of the ceilings of the ids
pub record IsLeastCeiling (slots : List Slot) (is : List ℕ) (x : ℤ) : Type 0 where
  pub bound : (j : ℕ) → j < length is → x ≤ℤ ceiling_at slots (slice_index_or is j 0)
  pub reached : (j : ℕ) × (j < length is) × (ceiling_at slots (slice_index_or is j 0) ≡ x)
