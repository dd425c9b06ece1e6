-- The values of the positions of a graph in which a colour has a budget, and why there are none.
use Rattle.std.specs.Prelude.{ℕ, ◌+◌, ◌-◌, ◌*◌, ◌^◌, ◌≡◌, ◌<◌, ◌≤◌, ◌↔◌, min, List, [], length, slice_index, slice_index_or, Result, Ok, Err, None}
use Rattle.dyadic_num.specs.declared.TheConstants.{EXPONENT}
use Rattle.go_grid.specs.declared.grid.Cell.{Cell}
use Rattle.go_grid.specs.declared.grid.Colour.{Colour}
use Rattle.go_grid.specs.Region.{Region}
use Rattle.local_graph.specs.Graph.{Graph}
use Rattle.local_graph.specs.FiniteLocalPlay.{HasNoCycle}
use Rattle.local_graph.specs.LocalGraph.{IsGraph}
use Rattle.local_graph.specs.ReturnGraph.{ReturnGraph, order_for, TellReturns, IsOrderBetweenCaptures}
use Rattle.short_games.specs.Tree.{Tree, tree_at}
use Rattle.short_games.specs.Number.{IsNumberTree}
use Rattle.short_games.specs.Parts.{HasMoreParts}
use Rattle.game_canon.specs.Changes.{HasNumberPastBounds}
use Rattle.game_canon.specs.Outcomes.{AreWithin}
use Rattle.game_canon.specs.declared.errors.FormError.{FormError}
use Rattle.game_canon.specs.declared.errors.FormError.TheVariants.{Parts, Bounds, Memory}
use Rattle.local_value.specs.declared.budgets.BudgetError.{BudgetError}
use Rattle.local_value.specs.declared.budgets.BudgetError.TheVariants.{Form, Captures}
use Rattle.local_trees.specs.Steady.{IsSteady, IsLeastSteady, IsBudgetValue}
use Rattle.local_trees.specs.GraphPlaces.{IsPlaceOf}

-- the graph has exactly the reachable positions of the region and their moves, and tells which of these return
pub record IsReturnGraphOf (r : Region) (g : ReturnGraph) : Type 0 where
  pub few : length r.cells ≤ 32
  pub graph : IsGraph r.touch r.cells g.positions g.edges
  pub calm : (g.components ≡ None) ↔ HasNoCycle r.touch r.cells
  pub returns : TellReturns r.touch r.cells g.positions g.edges g.components
  pub orders : (c : Colour) → IsOrderBetweenCaptures c g.edges g.components (order_for g c)

-- the graph without what tells which moves return
abbrev pub plain_graph : ReturnGraph → Graph
plain_graph g = record { positions = g.positions; edges = g.edges; order = g.black_order }

-- V is the value, with the owner's budget, of the position at the place
pub record IsBudgetValueAt (r : Region) (g : ReturnGraph) (owner : Colour) (budget i : ℕ) (V : Tree) : Type 0 where
  pub cells : List Cell
  pub place : IsPlaceOf r (plain_graph g) i cells
  pub value : IsBudgetValue r.touch owner budget cells V

-- an id for each place, that of the value of its position with the owner's budget
pub record AreBudgetValues (r : Region) (g : ReturnGraph) (owner : Colour) (budget : ℕ) (Ts : List Tree) (ids : List ℕ) : Type 0 where
  pub long : length ids ≡ length g.positions
  pub known : (i : ℕ) → i < length ids → slice_index ids i < length Ts
  pub each : (i : ℕ) (cells : List Cell) → IsPlaceOf r (plain_graph g) i cells
      → IsBudgetValue r.touch owner budget cells (tree_at Ts (slice_index ids i))

-- no value with the budget has more parts than the limit, or a number past the bounds
pub record AreWithinLimits (r : Region) (g : ReturnGraph) (owner : Colour) (limit budget : ℕ) : Type 0 where
  pub parts : (i : ℕ) (V : Tree) → IsBudgetValueAt r g owner budget i V → ¬ HasMoreParts V limit
  pub bounds : (i : ℕ) (V : Tree) → IsBudgetValueAt r g owner budget i V → ¬ HasNumberPastBounds V

-- the values with the budget are needed: the region isn't steady at a smaller one
abbrev pub IsNeeded : Region → Colour → ℕ → Type 0
IsNeeded r owner budget = (j : ℕ) → j < budget → ¬ IsSteady r.touch r.cells owner j

-- some value with the budget is no number and has more parts than the limit, or has a number past the bounds
abbrev pub IsPastLimits : Region → ReturnGraph → Colour → ℕ → ℕ → FormError → Type 0
IsPastLimits r g owner limit budget Parts =
    (i : ℕ) × (V : Tree) × IsBudgetValueAt r g owner budget i V × (IsNumberTree V → ⊥) × HasMoreParts V limit
IsPastLimits r g owner limit budget Bounds = (i : ℕ) × (V : Tree) × IsBudgetValueAt r g owner budget i V × HasNumberPastBounds V
IsPastLimits r g owner limit budget (Memory cause) = Unit {0}

-- so large are the numbers of the values with a budget at most, in the parts of a Dyadic
abbrev pub budget_size : Region → ReturnGraph → ℕ → ℕ
budget_size r g budget = (((budget + 1) * length g.positions) * (length r.cells + 1)) * 2 ^ EXPONENT

-- a layer for each budget up to the least at which the region is steady, with the values of all positions with that budget
pub record AreSteadyLayers (r : Region) (g : ReturnGraph) (owner : Colour) (limit budget : ℕ) (Ts : List Tree) (layers : List (List ℕ)) : Type 0 where
  pub many : length layers ≡ budget + 1
  pub least : IsLeastSteady r.touch r.cells owner budget
  pub values : (j : ℕ) → j ≤ budget → AreBudgetValues r g owner j Ts (slice_index_or layers j [])
  pub sizes : (j i : ℕ) → j ≤ budget → i < length g.positions → AreWithin (budget_size r g j) (tree_at Ts (slice_index (slice_index_or layers j []) i))
  pub limits : (j : ℕ) → j ≤ budget → AreWithinLimits r g owner limit j

-- The layers up to the least budget at which the region is steady, or why there are none: one of the values that are needed to tell
-- is past the limits, else the region isn't steady at any budget up to the most.
abbrev pub Valued : Region → ReturnGraph → Colour → ℕ → ℕ → List Tree → Result (List (List ℕ)) BudgetError → Type 0
Valued r g owner most limit Ts (Ok layers) = (budget : ℕ) × (budget ≤ most) × AreSteadyLayers r g owner limit budget Ts layers
Valued r g owner most limit Ts (Err (Form error)) = (k : ℕ) × (k ≤ most + 1) × IsNeeded r owner k × IsPastLimits r g owner limit k error
Valued r g owner most limit Ts (Err Captures) = IsNeeded r owner (most + 1) × ((j : ℕ) → j ≤ most + 1 → AreWithinLimits r g owner limit j)

-- the layer that serves a budget: its own, or the last
abbrev pub layer_with : List (List ℕ) → ℕ → List ℕ
layer_with layers budget = slice_index_or layers (min budget (length layers - 1)) []

-- The layer that serves a budget has the values with it, and their numbers are no larger than the last layer's may be.
abbrev pub LayersServe : Type 0
LayersServe = (r : Region) (g : ReturnGraph) (owner : Colour) (limit budget : ℕ) (Ts : List Tree) (layers : List (List ℕ))
    → AreSteadyLayers r g owner limit budget Ts layers → (j : ℕ) → AreBudgetValues r g owner j Ts (layer_with layers j)
    × ((i : ℕ) → i < length g.positions → AreWithin (budget_size r g budget) (tree_at Ts (slice_index (layer_with layers j) i)))
