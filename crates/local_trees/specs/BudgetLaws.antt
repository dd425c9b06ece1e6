-- What the trees of positions with budgets obey.
use Rattle.std.specs.Prelude.{ℕ, ◌+◌, ◌*◌, ◌^◌, ◌≤◌, List, length, map}
use Rattle.go_grid.specs.declared.grid.Cell.{Cell}
use Rattle.go_grid.specs.declared.grid.Cell.TheVariants.{Empty, Black, White}
use Rattle.go_grid.specs.declared.grid.Colour.{Colour}
use Rattle.go_grid.specs.declared.region.Touch.{Touch}
use Rattle.go_grid.specs.Board.{other}
use Rattle.local_graph.specs.LocalGraph.{IsReachable}
use Rattle.local_graph.specs.FiniteLocalPlay.{HasNoCycle}
use Rattle.short_games.specs.Tree.{Tree, neg}
use Rattle.short_games.specs.Order.{◌≡ᵍ◌}
use Rattle.local_trees.specs.PositionTree.{IsTreeOf}
use Rattle.local_trees.specs.BudgetTree.{IsBudgetTreeWithin, IsBudgetTree}
use Rattle.local_trees.specs.Steady.{AreBudgetsAlike, IsSteady}

-- Each local position has a tree for each budget and depth.
abbrev pub BudgetTreesExist : Type 0
BudgetTreesExist = (touch : List Touch) (owner : Colour) (n budget : ℕ) (cells : List Cell) → (G : Tree) × IsBudgetTreeWithin touch owner n budget cells G

-- Trees of one position with one budget to one depth are equal as games.
abbrev pub OneBudgetTree : Type 0
OneBudgetTree = (touch : List Touch) (owner : Colour) (n budget : ℕ) (cells : List Cell) (G H : Tree)
    → IsBudgetTreeWithin touch owner n budget cells G → IsBudgetTreeWithin touch owner n budget cells H → G ≡ᵍ H

-- More moves than those of the tree change nothing.
abbrev pub BudgetDepthIsEnough : Type 0
BudgetDepthIsEnough = (touch : List Touch) (owner : Colour) (n budget : ℕ) (cells : List Cell) (G H : Tree) → (budget + 1) * 3 ^ length cells ≤ n
    → IsBudgetTree touch owner budget cells G → IsBudgetTreeWithin touch owner n budget cells H → G ≡ᵍ H

-- What is steady stays: each greater budget has the same trees.
abbrev pub SteadyStays : Type 0
SteadyStays = (touch : List Touch) (opening : List Cell) (owner : Colour) (j i : ℕ) → IsSteady touch opening owner j → j ≤ i
    → AreBudgetsAlike touch opening owner j i

-- Without a cycle, the tree for each budget of either colour is that of the position.
abbrev pub BudgetsNeedCycles : Type 0
BudgetsNeedCycles = (touch : List Touch) (opening : List Cell) (owner : Colour) (budget : ℕ) → HasNoCycle touch opening
    → (cells : List Cell) → IsReachable touch opening cells
    → (G H : Tree) → IsBudgetTree touch owner budget cells G → IsTreeOf touch (3 ^ length cells) cells H → G ≡ᵍ H

-- what is next to a place, with the colours exchanged
abbrev pub exchanged_touch : Touch → Touch
exchanged_touch t = record { black = t.white; white = t.black; up = t.up; left = t.left; right = t.right; down = t.down }

-- what a place holds, with the colours exchanged
abbrev pub exchanged_cell : Cell → Cell
exchanged_cell Empty = Empty
exchanged_cell Black = White
exchanged_cell White = Black

-- Exchanging the colours turns the trees for a budget of the one into the negatives of those for a budget of the other.
abbrev pub ExchangeNegates : Type 0
ExchangeNegates = (touch : List Touch) (owner : Colour) (budget : ℕ) (cells : List Cell) (G H : Tree)
    → IsBudgetTree touch owner budget cells G
    → IsBudgetTree (map exchanged_touch touch) (other owner) budget (map exchanged_cell cells) H → G ≡ᵍ neg H
