-- Shapes keep what a budget makes of a position.
use Rattle.std.specs.Prelude.{◌≡◌, ℕ, Bool, List, length}
use Rattle.go_grid.specs.declared.grid.Cell.{Cell}
use Rattle.go_grid.specs.declared.grid.Colour.{Colour}
use Rattle.go_grid.specs.declared.region.Touch.{Touch}
use Rattle.short_games.specs.Tree.{Tree}
use Rattle.short_games.specs.Order.{◌≡ᵍ◌}
use Rattle.local_trees.specs.BudgetTree.{IsBudgetTree}
use Rattle.local_trees.specs.Steady.{IsSteadyValue}
use Rattle.region_book.specs.declared.symmetry.Symmetry.{Symmetry}
use Rattle.region_book.specs.Shape.{Carries, IsPartner, colour_after}
use Rattle.endgame_solver.specs.ShapeValues.{AreLinked, game_after}

-- a pairing carries the one position onto the other, with colours kept or exchanged
pub record IsCarried (touch : List Touch) (cells : List Cell) (touch' : List Touch) (cells' : List Cell) (colours : Bool) : Type 0 where
  pub partners : List ℕ
  pub symmetry : Symmetry
  pub linked : AreLinked touch cells
  pub linked' : AreLinked touch' cells'
  pub carries : Carries touch cells touch' cells' (IsPartner partners) symmetry colours

-- Where one position is carried onto another, the trees in which a colour has a budget are equal where the colours are kept; where they are
-- exchanged, the one is equal to the negative of that in which the other colour has it.
abbrev pub ShapesKeepBudgetTrees : Type 0
ShapesKeepBudgetTrees = (touch : List Touch) (cells : List Cell) (touch' : List Touch) (cells' : List Cell) (colours : Bool)
    → IsCarried touch cells touch' cells' colours → (owner : Colour) (budget : ℕ) (G H : Tree)
    → IsBudgetTree touch owner budget cells G → IsBudgetTree touch' (colour_after colours owner) budget cells' H → G ≡ᵍ game_after colours H

-- So it is with the values of openings of as many places, with the least budgets at which their regions are steady.
abbrev pub ShapesKeepSteadyValues : Type 0
ShapesKeepSteadyValues = (touch : List Touch) (cells : List Cell) (touch' : List Touch) (cells' : List Cell) (colours : Bool)
    → IsCarried touch cells touch' cells' colours → length cells' ≡ length cells → (owner : Colour) (V W : Tree)
    → IsSteadyValue touch cells owner cells V → IsSteadyValue touch' cells' (colour_after colours owner) cells' W → V ≡ᵍ game_after colours W
