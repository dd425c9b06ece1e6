-- Flags on the ids of a store.
use Rattle.std.specs.Prelude.{ℕ, ◌+◌, ◌≡◌, ◌<◌, ◌≤◌, ◌⊎◌, ◌↔◌, Bool, true, false, List, length}
use Rattle.std.specs.List.{slice_index_or}
use Rattle.short_games.specs.Tree.{Tree, tree_at}
use Rattle.short_games.specs.Number.{IsNumberTree}
use Rattle.short_games.specs.Parts.{IsOption, IsFollower}

-- the id is flagged; past the end of the list none is
abbrev pub IsFlagged : List Bool → ℕ → Type 0
IsFlagged flags i = slice_index_or flags i false ≡ true

-- the second list has the flags of the first, and one at each place that is in the set
pub record AreAdded (In : ℕ → Type 0) (flags after : List Bool) : Type 0 where
  pub size : length after ≡ length flags
  pub flagged : (i : ℕ) → i < length flags → IsFlagged after i ↔ (IsFlagged flags i ⊎ In i)

-- i is one of the ids
abbrev pub IsAmong : List ℕ → ℕ → Type 0
IsAmong is i = (j : ℕ) × (j < length is) × (slice_index_or is j 0 ≡ i)

-- the form of i is an option of that of id, which is no number
abbrev pub IsInnerId : List Tree → ℕ → ℕ → Type 0
IsInnerId Ts id i = (i < id) × (IsNumberTree (tree_at Ts id) → ⊥) × IsOption (tree_at Ts id) (tree_at Ts i)

-- followers of id are flagged, id among them; and of the flagged ones from a place on all options are flagged
pub record AreFollowers (Ts : List Tree) (id place : ℕ) (flags : List Bool) : Type 0 where
  pub size : length flags ≡ id + 1
  pub root : IsFlagged flags id
  pub follows : (i : ℕ) → i < length flags → IsFlagged flags i → IsFollower (tree_at Ts id) (tree_at Ts i)
  pub closed : (j i : ℕ) → place ≤ j → j < length flags → IsFlagged flags j → IsInnerId Ts j i → IsFlagged flags i
