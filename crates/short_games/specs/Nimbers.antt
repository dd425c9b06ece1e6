-- Nimbers.
use Rattle.std.specs.Prelude.{ℕ, zero, suc, ◌<◌, ◌↔◌}
use Rattle.short_games.specs.Tree.{Tree, Trees, node, none, more, left, right, Has}
use Rattle.short_games.specs.Order.{◌≡ᵍ◌}
use Rattle.short_games.specs.Parts.{IsOption}

-- the nimbers below n: of n - 1 and so on down to 0
unfoldable pub nimbers_below : ℕ → Trees
nimbers_below zero = none
nimbers_below (suc n) = more (node (nimbers_below n) (nimbers_below n)) (nimbers_below n)

-- the nimber of n, where both sides move to the nimbers below n
abbrev pub nimber : ℕ → Tree
nimber n = node (nimbers_below n) (nimbers_below n)

-- a tree of the list is equal to the nimber of k
abbrev pub HasNimber : Trees → ℕ → Type 0
HasNimber Gs k = (X : Tree) × Has Gs X × (X ≡ᵍ nimber k)

-- n is the mex of the list: the least number of which the list has no nimber
pub record IsMex (Gs : Trees) (n : ℕ) : Type 0 where
  pub missing : HasNimber Gs n → ⊥
  pub smaller : (k : ℕ) → k < n → HasNimber Gs k

-- an impartial game: in it and in each follower both sides have the same options
pub data IsImpartial : Tree → Type 0 where
  impartial : {G : Tree} → ((X : Tree) → Has (left G) X ↔ Has (right G) X) → ((X : Tree) → IsOption G X → IsImpartial X) → IsImpartial G
