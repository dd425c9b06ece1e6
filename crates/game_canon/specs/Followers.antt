-- How the parts of forms are gathered.
use Rattle.std.specs.Prelude.{ℕ, ◌≡◌, ◌<◌, List, length}
use Rattle.std.specs.List.{slice_index_or}
use Rattle.short_games.specs.Tree.{Tree, tree_at}

-- X is the tree of one of the ids
abbrev pub IsIn : List Tree → List ℕ → Tree → Type 0
IsIn Ts is X = (j : ℕ) × (j < length is) × (X ≡ tree_at Ts (slice_index_or is j 0))
