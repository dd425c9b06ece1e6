-- How far a list of reachable games has grown.
use Rattle.std.specs.Prelude.{ℕ, ◌<◌, ◌≤◌, ◌⊎◌, List, length}
use Rattle.std.specs.List.{slice_index_or}
use Rattle.short_games.specs.Tree.{Tree, tree_at}
use Rattle.short_games.specs.Parts.{IsInner}
use Rattle.game_store.specs.Meaning.{IsAscending}
use Rattle.game_canon.specs.Followers.{IsIn}
use Rattle.game_canon.specs.inner.Ids.{Stands}

-- ids of both lists in ascending order: all of the first, and the first n of the second
pub record IsJoined (is js : List ℕ) (n : ℕ) (us : List ℕ) : Type 0 where
  pub ascends : IsAscending us
  pub kept : (i : ℕ) → Stands is i → Stands us i
  pub added : (j : ℕ) → j < n → j < length js → Stands us (slice_index_or js j 0)
  pub from : (i : ℕ) → Stands us i → Stands is i ⊎ Stands js i

-- the ids of the list, and those of the options of the id's tree unless this is a number's, in ascending order
pub record IsFollowed (Ts : List Tree) (is : List ℕ) (id : ℕ) (us : List ℕ) : Type 0 where
  pub ascends : IsAscending us
  pub kept : (i : ℕ) → Stands is i → Stands us i
  pub added : (X : Tree) → IsInner (tree_at Ts id) X → IsIn Ts us X
  pub from : (i : ℕ) → Stands us i → Stands is i ⊎ ((i < id) × IsInner (tree_at Ts id) (tree_at Ts i))

-- no id of the list is below the end
abbrev pub AreFrom : List ℕ → ℕ → Type 0
AreFrom is end = (j : ℕ) → j < length is → end ≤ slice_index_or is j 0

-- the greatest id of the list that is below the end
pub record IsLastBelow (is : List ℕ) (end id : ℕ) : Type 0 where
  pub stands : Stands is id
  pub below : id < end
  pub last : (j : ℕ) → j < length is → slice_index_or is j 0 < end → slice_index_or is j 0 ≤ id
