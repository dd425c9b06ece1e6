-- The laws of the order.
use Rattle.std.specs.Prelude.{◌↔◌}
use Rattle.short_games.specs.Tree.{Tree}
use Rattle.short_games.specs.Order.{◌≤ᵍ◌, ◌⧏ᵍ◌, NoneBeats}

-- G is at most H where no Left option of G is at least H, and no Right option of H at most G
abbrev pub OrderIs : Type 0
OrderIs = (G H : Tree) → (G ≤ᵍ H) ↔ NoneBeats G H

-- G is less than H or confused with it where G is not at least H
abbrev pub ConfusedIs : Type 0
ConfusedIs = (G H : Tree) → (G ⧏ᵍ H) ↔ (H ≤ᵍ G → ⊥)

-- each game is at most itself
abbrev pub IsReflexive : Type 0
IsReflexive = (G : Tree) → G ≤ᵍ G

-- what is at most a game is at most what that is at most
abbrev pub IsTransitive : Type 0
IsTransitive = (G H K : Tree) → G ≤ᵍ H → H ≤ᵍ K → G ≤ᵍ K
