-- Followers, parts and numbers of a tree.
use Rattle.std.specs.Prelude.{ℕ, ◌≡◌, ◌<◌, ◌⊎◌, List, length, ℤ}
use Rattle.short_games.specs.Tree.{Tree, left, right, Has, tree_at, AreDistinct}
use Rattle.short_games.specs.Number.{IsNumberTree, number_tree}

-- X is a Left or a Right option of G
abbrev pub IsOption : Tree → Tree → Type 0
IsOption G X = Has (left G) X ⊎ Has (right G) X

-- X is G itself or a follower of an option of G
pub data IsFollower : Tree → Tree → Type 0 where
  itself : (G : Tree) → IsFollower G G
  further : (G H X : Tree) → IsOption G H → IsFollower H X → IsFollower G X

-- a part of G: a follower that is no number's tree
abbrev pub IsPart : Tree → Tree → Type 0
IsPart G X = IsFollower G X × (IsNumberTree X → ⊥)

-- different parts of G
pub record AreParts (G : Tree) (Xs : List Tree) : Type 0 where
  pub each : (j : ℕ) → j < length Xs → IsPart G (tree_at Xs j)
  pub different : AreDistinct Xs

-- G has exactly n parts
abbrev pub HasParts : Tree → ℕ → Type 0
HasParts G n = (Xs : List Tree) × AreParts G Xs × ((X : Tree) → IsPart G X → (j : ℕ) × (j < length Xs) × (tree_at Xs j ≡ X)) × (length Xs ≡ n)

-- G has more than n parts
abbrev pub HasMoreParts : Tree → ℕ → Type 0
HasMoreParts G n = (Xs : List Tree) × AreParts G Xs × (n < length Xs)

-- a number of G, in parts of 2 ^ -60: that whose tree G is, or whose tree is an option of a part of G
abbrev pub IsNumberOf : Tree → ℤ → Type 0
IsNumberOf G x = (G ≡ number_tree x) ⊎ ((P : Tree) × IsPart G P × IsOption P (number_tree x))

-- X is an option of G, which is no number's tree
abbrev pub IsInner : Tree → Tree → Type 0
IsInner G X = (IsNumberTree G → ⊥) × IsOption G X

-- X is G, or an option of a part of G
abbrev pub IsReached : Tree → Tree → Type 0
IsReached G X = (X ≡ G) ⊎ ((P : Tree) × IsPart G P × IsOption P X)
