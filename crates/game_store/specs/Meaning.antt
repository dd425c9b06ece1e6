-- What the entries of a store mean: a list of trees, one for each id.
use Rattle.std.specs.Prelude.{ℕ, ◌≡◌, ◌<◌, ◌≤◌, List, [], ◌∷◌, length, ℤ}
use Rattle.std.specs.List.{slice_index_or}
use Rattle.short_games.specs.Tree.{Tree, Trees, node, none, more, tree_at}
use Rattle.short_games.specs.TextOrder.{sorted, IsCanonicalTree}

-- the trees of a list of ids
abbrev pub pick : List Tree → List ℕ → Trees
pick Ts [] = none
pick Ts (i ∷ is) = more (tree_at Ts i) (pick Ts is)

-- the tree whose options are those of the ids, as they are listed
abbrev pub listed : List Tree → List ℕ → List ℕ → Tree
listed Ts ls rs = node (pick Ts ls) (pick Ts rs)

-- the tree whose options are those of the ids, each once, in the order of their texts
abbrev pub form : List Tree → List ℕ → List ℕ → Tree
form Ts ls rs = node (sorted (pick Ts ls)) (sorted (pick Ts rs))

-- what is to be found or kept: a number, or lists of ids
pub data Wanted : Type 0 where
  number : ℤ → Wanted
  options : List ℕ → List ℕ → Wanted

-- the ids of a list are below a bound
abbrev pub AreBelow : ℕ → List ℕ → Type 0
AreBelow n is = (j : ℕ) → j < length is → slice_index_or is j 0 < n

-- a list in strictly ascending order
abbrev pub IsAscending : List ℕ → Type 0
IsAscending xs = (i j : ℕ) → i < j → j < length xs → slice_index_or xs i 0 < slice_index_or xs j 0

-- each tree is canonical
abbrev pub AreCanonical : List Tree → Type 0
AreCanonical Ts = (i : ℕ) → i < length Ts → IsCanonicalTree (tree_at Ts i)

-- each id of the list is one of the trees
abbrev pub AreIds : List Tree → List ℕ → Type 0
AreIds Ts is = AreBelow (length Ts) is

-- every id keeps its tree
pub record Extends (Ts Us : List Tree) : Type 0 where
  pub longer : length Ts ≤ length Us
  pub same : (i : ℕ) → i < length Ts → tree_at Us i ≡ tree_at Ts i

-- the id is one of the list, and its tree is G
abbrev pub IsIdOf : List Tree → Tree → ℕ → Type 0
IsIdOf Ts G id = (id < length Ts) × (tree_at Ts id ≡ G)
