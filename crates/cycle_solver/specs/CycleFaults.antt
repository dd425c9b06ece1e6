-- Faults of regions whose moves may return: what keeps a position from being solved.
use Rattle.std.specs.Prelude.{ℕ, ◌+◌, ◌≡◌, ◌<◌, ◌≤◌, ◌⊎◌, List, length, Contains}
use Rattle.go_grid.specs.declared.grid.Cell.{Cell}
use Rattle.go_grid.specs.declared.grid.Colour.{Colour}
use Rattle.go_grid.specs.Region.{Region}
use Rattle.local_graph.specs.LocalGraph.{IsReachable, MoreThan}
use Rattle.region_cut.specs.Cut.{lowest}
use Rattle.short_games.specs.Tree.{Tree}
use Rattle.short_games.specs.Parts.{HasMoreParts}
use Rattle.game_canon.specs.Changes.{HasNumberPastBounds}
use Rattle.local_value.specs.BudgetValues.{IsNeeded}
use Rattle.local_trees.specs.Steady.{IsBudgetValue, IsLeastSteady}
use Rattle.endgame_solver.specs.Faults.{AreSmallRegions, IsFirstLarge}
use Rattle.endgame_solver.specs.Regions.{region_at}
use Rattle.endgame_solver.specs.Limits.{Limits}
use Rattle.cycle_solver.specs.declared.faults.CycleError.{CycleError}
use Rattle.cycle_solver.specs.declared.faults.CycleError.TheVariants.{Points, Positions, Form, Captures, Memory}

-- the value of some reachable position, with the colour's budget, has more parts than the limit, or a number past the bounds of a Dyadic
abbrev pub HasLargeForm : Region → Colour → ℕ → ℕ → Type 0
HasLargeForm r c budget parts = (cells : List Cell) × IsReachable r.touch r.cells cells
    × ((V : Tree) × IsBudgetValue r.touch c budget cells V × (HasMoreParts V parts ⊎ HasNumberPastBounds V))

-- such a value is needed to tell at which budget up to the most the region is steady for a colour
abbrev pub HasLargeNeeded : Region → ℕ → ℕ → Type 0
HasLargeNeeded r most parts = (c : Colour) × ((j : ℕ) × (j ≤ most + 1) × IsNeeded r c j × HasLargeForm r c j parts)

-- the region is steady for some colour at no budget up to the most
abbrev pub IsUnsteady : Region → ℕ → Type 0
IsUnsteady r most = (c : Colour) × IsNeeded r c (most + 1)

-- the region has at most 32 points, at most so many reachable positions, a form for each value that is needed, and is steady for both
-- colours at budgets up to the most
pub record IsSteadyWithin (limits : Limits) (most : ℕ) (r : Region) : Type 0 where
  pub points : length r.points ≤ 32
  pub positions : ¬ MoreThan r.touch r.cells limits.positions
  pub forms : ¬ HasLargeNeeded r most limits.parts
  pub steady : (c : Colour) → (j : ℕ) × (j ≤ most) × IsLeastSteady r.touch r.cells c j

-- each region is steady within the limits
abbrev pub AreSteadyWithin : Limits → ℕ → List Region → Type 0
AreSteadyWithin limits most regions = (r : Region) → Contains regions r → IsSteadyWithin limits most r

-- the region, of at most 32 points, has this fault: too many positions, else a needed value without a form, else it isn't steady
abbrev pub IsFaultOf : Limits → ℕ → Region → CycleError → Type 0
IsFaultOf limits most r (Points p n) = ⊥
IsFaultOf limits most r (Positions p) = (p ≡ lowest r) × MoreThan r.touch r.cells limits.positions
IsFaultOf limits most r (Form p) = (p ≡ lowest r) × ¬ MoreThan r.touch r.cells limits.positions × HasLargeNeeded r most limits.parts
IsFaultOf limits most r (Captures p) = (p ≡ lowest r) × ¬ MoreThan r.touch r.cells limits.positions × ¬ HasLargeNeeded r most limits.parts
    × IsUnsteady r most
IsFaultOf limits most r (Memory e) = ⊥

-- the first region that isn't steady within the limits, and its fault
abbrev pub IsFirstFault : Limits → ℕ → List Region → CycleError → Type 0
IsFirstFault limits most regions fault = (k : ℕ) × (k < length regions) × IsFaultOf limits most (region_at regions k) fault
    × ((j : ℕ) → j < k → IsSteadyWithin limits most (region_at regions j))

-- Why the regions aren't solved: the first of more than 32 points, or else the first with another fault. Want of memory is free.
abbrev pub AreRefused : Limits → ℕ → List Region → CycleError → Type 0
AreRefused limits most regions (Points p n) = IsFirstLarge regions p n
AreRefused limits most regions (Memory e) = Unit {0}
AreRefused limits most regions fault = AreSmallRegions regions × IsFirstFault limits most regions fault
