-- What the trees of positions obey.
use Rattle.std.specs.Prelude.{ℕ, List}
use Rattle.go_grid.specs.declared.grid.Cell.{Cell}
use Rattle.go_grid.specs.declared.grid.Colour.{Colour}
use Rattle.go_grid.specs.declared.region.Touch.{Touch}
use Rattle.short_games.specs.Tree.{Tree}
use Rattle.short_games.specs.Order.{◌≡ᵍ◌}
use Rattle.local_trees.specs.PositionTree.{IsStep, IsTreeOf, PlaysAreShort}

-- some local move of either player leads from the one position to the other
abbrev pub MovesTo : List Touch → List Cell → List Cell → Type 0
MovesTo touch p q = (c : Colour) × ((n : ℕ) × IsStep touch c p (record { to = q; taken = n }))

-- Trees of one position to two depths are equal as games, where no play from it has more moves than either.
abbrev pub DepthIsFree : Type 0
DepthIsFree = (touch : List Touch) (cells : List Cell) (n m : ℕ) (G H : Tree) → PlaysAreShort (List Cell) (MovesTo touch) n cells
    → PlaysAreShort (List Cell) (MovesTo touch) m cells → IsTreeOf touch n cells G → IsTreeOf touch m cells H → G ≡ᵍ H

-- Trees of one position to one depth are equal as games.
abbrev pub OneTree : Type 0
OneTree = (touch : List Touch) (cells : List Cell) (n : ℕ) (G H : Tree) → IsTreeOf touch n cells G → IsTreeOf touch n cells H → G ≡ᵍ H

-- Each local position has a tree of each depth.
abbrev pub TreesExist : Type 0
TreesExist = (touch : List Touch) (cells : List Cell) (n : ℕ) → (G : Tree) × IsTreeOf touch n cells G
