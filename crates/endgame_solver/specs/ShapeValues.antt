-- Shapes keep values.
use Rattle.std.specs.Prelude.{◌≡◌, ℕ, ◌<◌, Bool, true, false, Some, List, length}
use Rattle.go_grid.specs.declared.grid.Cell.{Cell}
use Rattle.go_grid.specs.declared.region.Touch.{Touch}
use Rattle.go_grid.specs.Region.{touch_at}
use Rattle.short_games.specs.Tree.{Tree, neg}
use Rattle.short_games.specs.Order.{◌≡ᵍ◌}
use Rattle.local_trees.specs.PositionTree.{IsTreeOf}
use Rattle.region_book.specs.declared.symmetry.Symmetry.{Symmetry}
use Rattle.region_book.specs.Shape.{Carries, Direction, IsPartner, link}

-- a cell for each place, and each link leads to a place
pub record AreLinked (touch : List Touch) (cells : List Cell) : Type 0 where
  pub full : length cells ≡ length touch
  pub inside : (i k : ℕ) (d : Direction) → link (touch_at touch i) d ≡ Some k → k < length touch

-- the game, or its negative where colours are exchanged
abbrev pub game_after : Bool → Tree → Tree
game_after false H = H
game_after true H = neg H

-- Where a pairing carries one local position onto another, their trees are equal where the colours are kept, and the one is equal to
-- the negative of the other where they are exchanged.
abbrev pub ShapesKeepValues : Type 0
ShapesKeepValues = (touch : List Touch) (cells : List Cell) (touch' : List Touch) (cells' : List Cell) (partners : List ℕ) (s : Symmetry)
    (colours : Bool) → AreLinked touch cells → AreLinked touch' cells' → Carries touch cells touch' cells' (IsPartner partners) s colours
    → (n : ℕ) (G H : Tree) → IsTreeOf touch n cells G → IsTreeOf touch' n cells' H → G ≡ᵍ game_after colours H
