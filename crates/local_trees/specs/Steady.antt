-- Budgets with which a region is steady: a greater one changes nothing.
use Rattle.std.specs.Prelude.{ℕ, ◌+◌, ◌<◌, List}
use Rattle.go_grid.specs.declared.grid.Cell.{Cell}
use Rattle.go_grid.specs.declared.grid.Colour.{Colour}
use Rattle.go_grid.specs.declared.region.Touch.{Touch}
use Rattle.local_graph.specs.LocalGraph.{IsReachable}
use Rattle.short_games.specs.Tree.{Tree}
use Rattle.short_games.specs.Order.{◌≡ᵍ◌}
use Rattle.short_games.specs.TextOrder.{IsCanonicalTree}
use Rattle.local_trees.specs.BudgetTree.{IsBudgetTree}

-- trees for the two budgets are equal at every reachable position
abbrev pub AreBudgetsAlike : List Touch → List Cell → Colour → ℕ → ℕ → Type 0
AreBudgetsAlike touch opening owner j i = (cells : List Cell) → IsReachable touch opening cells
    → (G H : Tree) → IsBudgetTree touch owner j cells G → IsBudgetTree touch owner i cells H → G ≡ᵍ H

-- the region is steady at the budget: one capture more changes no tree
abbrev pub IsSteady : List Touch → List Cell → Colour → ℕ → Type 0
IsSteady touch opening owner j = AreBudgetsAlike touch opening owner j (j + 1)

-- the budget is the least at which the region is steady
pub record IsLeastSteady (touch : List Touch) (opening : List Cell) (owner : Colour) (budget : ℕ) : Type 0 where
  pub steady : IsSteady touch opening owner budget
  pub least : (j : ℕ) → j < budget → ¬ IsSteady touch opening owner j

-- V is the canonical tree of a tree of the position with the budget
pub record IsBudgetValue (touch : List Touch) (owner : Colour) (budget : ℕ) (cells : List Cell) (V : Tree) : Type 0 where
  pub tree : Tree
  pub of_position : IsBudgetTree touch owner budget cells tree
  pub canonical : IsCanonicalTree V
  pub same : tree ≡ᵍ V

-- V is the owner's value of the position: with the least budget at which the region is steady
abbrev pub IsSteadyValue : List Touch → List Cell → Colour → List Cell → Tree → Type 0
IsSteadyValue touch opening owner cells V = (budget : ℕ) × IsLeastSteady touch opening owner budget × IsBudgetValue touch owner budget cells V
