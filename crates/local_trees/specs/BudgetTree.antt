-- Local play in which one colour, the owner, has a budget of captures that return, and the other colour is free.
use Rattle.std.specs.Prelude.{ℕ, ◌+◌, ◌*◌, ◌^◌, ◌≡◌, ◌⊎◌, List, length}
use Rattle.go_grid.specs.declared.grid.Cell.{Cell}
use Rattle.go_grid.specs.declared.grid.Colour.{Colour}
use Rattle.go_grid.specs.declared.region.Touch.{Touch}
use Rattle.local_graph.specs.Returns.{IsCapture, Returns}
use Rattle.short_games.specs.Tree.{Tree}
use Rattle.local_trees.specs.LocalGame.{Step}
use Rattle.local_trees.specs.PositionTree.{IsTree, IsStep}

-- a position, and how many captures that return the owner may still make
pub record Budgeted : Type 0 where
  pub cells : List Cell
  pub budget : ℕ

-- the player's move from the one position to the other uses up budget: it is the owner's, takes a stone, and returns
abbrev pub UsesBudget : List Touch → Colour → Colour → List Cell → List Cell → Type 0
UsesBudget touch owner player from to = (player ≡ owner) × IsCapture from to × Returns touch from to

-- the budget after a player's move: one less where the move uses it up, for which there must be one, and else as before
abbrev pub IsBudgetAfter : List Touch → Colour → Colour → Budgeted → Budgeted → Type 0
IsBudgetAfter touch owner player p q =
    (UsesBudget touch owner player p.cells q.cells × (p.budget ≡ q.budget + 1)) ⊎ (¬ UsesBudget touch owner player p.cells q.cells × (p.budget ≡ q.budget))

-- a local move of a position, what it takes, and the budget after it
abbrev pub IsBudgetStep : List Touch → Colour → Colour → Budgeted → Step Budgeted → Type 0
IsBudgetStep touch owner player p x = IsStep touch player p.cells (record { to = x.to.cells; taken = x.taken }) × IsBudgetAfter touch owner player p x.to

-- a tree of the position in which the owner has the budget, cut off after n moves
abbrev pub IsBudgetTreeWithin : List Touch → Colour → ℕ → ℕ → List Cell → Tree → Type 0
IsBudgetTreeWithin touch owner n budget cells G = IsTree Budgeted (IsBudgetStep touch owner) n (record { cells = cells; budget = budget }) G

-- a tree of the position in which the owner has the budget: low where that is Black, high where it is White
abbrev pub IsBudgetTree : List Touch → Colour → ℕ → List Cell → Tree → Type 0
IsBudgetTree touch owner budget cells G = IsBudgetTreeWithin touch owner ((budget + 1) * 3 ^ length cells) budget cells G
