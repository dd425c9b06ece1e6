-- What a form is made of.
use Rattle.std.specs.Prelude.{ℕ, ◌<◌, List, length}
use Rattle.std.specs.List.{slice_index_or}
use Rattle.short_games.specs.Tree.{Tree, tree_at}
use Rattle.game_store.specs.Meaning.{AreIds, IsAscending}
use Rattle.short_games.specs.Parts.{IsInner, IsReached}
use Rattle.game_canon.specs.Followers.{IsIn}

-- the ids of G and of all options of its parts, in ascending order
pub record AreReachable (Ts : List Tree) (G : Tree) (is : List ℕ) : Type 0 where
  pub ids : AreIds Ts is
  pub ascends : IsAscending is
  pub root : IsIn Ts is G
  pub reached : (j : ℕ) → j < length is → IsReached G (tree_at Ts (slice_index_or is j 0))
  pub closed : (j : ℕ) → j < length is → (X : Tree) → IsInner (tree_at Ts (slice_index_or is j 0)) X → IsIn Ts is X
