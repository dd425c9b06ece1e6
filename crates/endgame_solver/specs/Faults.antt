-- Faults of regions: what keeps a position from being solved.
use Rattle.std.specs.Prelude.{◌≡◌, ℕ, ◌<◌, ◌≤◌, ◌⊎◌, List, length, map, slice_index, Contains, min, ◌^◌, Option, Some, None}
use Rattle.std.specs.List.{sum_by}
use Rattle.go_grid.specs.declared.grid.Cell.{Cell}
use Rattle.go_grid.specs.declared.grid.Colour.{Colour}
use Rattle.go_grid.specs.Region.{Region}
use Rattle.local_graph.specs.declared.cycle.CycleMove.{CycleMove}
use Rattle.local_graph.specs.FiniteLocalPlay.{HasNoCycle}
use Rattle.local_graph.specs.LocalGraph.{IsReachable, IsCycle, AreDifferent, MoreThan}
use Rattle.region_cut.specs.Cut.{lowest}
use Rattle.short_games.specs.Tree.{Tree}
use Rattle.short_games.specs.Parts.{HasMoreParts}
use Rattle.game_canon.specs.Changes.{HasNumberPastBounds}
use Rattle.local_trees.specs.PositionTree.{IsValueOf}
use Rattle.endgame_solver.specs.Regions.{region_at}
use Rattle.endgame_solver.specs.Limits.{Limits}
use Rattle.endgame_solver.specs.declared.faults.SolveError.{SolveError}
use Rattle.endgame_solver.specs.declared.faults.SolveError.TheVariants.{Points, Positions, Cycle, Form, Memory}

-- the value of some reachable position has more parts than the limit, or a number past the bounds of a Dyadic
abbrev pub HasLargeForm : Region → ℕ → Type 0
HasLargeForm r parts = (cells : List Cell) × IsReachable r.touch r.cells cells
    × ((V : Tree) × IsValueOf r.touch cells V × (HasMoreParts V parts ⊎ HasNumberPastBounds V))

-- the region has at most 32 points, at most so many reachable positions, no cycle, and each position's value a form
pub record IsSound (limits : Limits) (r : Region) : Type 0 where
  pub points : length r.points ≤ 32
  pub positions : ¬ MoreThan r.touch r.cells limits.positions
  pub no_cycle : HasNoCycle r.touch r.cells
  pub forms : ¬ HasLargeForm r limits.parts

-- each region is sound: few enough points and positions, no cycle, and a form for each value
abbrev pub AreSound : Limits → List Region → Type 0
AreSound limits regions = (r : Region) → Contains regions r → IsSound limits r

-- a move of a region with its point
abbrev pub named : Region → CycleMove → Colour × ℕ
named r m = (m.colour, slice_index r.points m.place)

-- the region, of at most 32 points, has this fault: too many positions, else a cycle, else a value without a form
abbrev pub IsFaultOf : Limits → Region → SolveError → Type 0
IsFaultOf limits r (Points p n) = ⊥
IsFaultOf limits r (Positions p) = (p ≡ lowest r) × MoreThan r.touch r.cells limits.positions
IsFaultOf limits r (Cycle p names back) = (p ≡ lowest r) × ¬ MoreThan r.touch r.cells limits.positions
    × ((ms : List CycleMove) × IsCycle r.touch r.cells ms back × AreDifferent r.touch r.cells ms × (names ≡ map (named r) ms))
IsFaultOf limits r (Form p) = (p ≡ lowest r) × ¬ MoreThan r.touch r.cells limits.positions × HasNoCycle r.touch r.cells × HasLargeForm r limits.parts
IsFaultOf limits r (Memory e) = ⊥

-- each region has at most 32 points
abbrev pub AreSmallRegions : List Region → Type 0
AreSmallRegions regions = (r : Region) → Contains regions r → length r.points ≤ 32

-- the first region with more than 32 points
abbrev pub IsFirstLarge : List Region → ℕ → ℕ → Type 0
IsFirstLarge regions p n = (k : ℕ) × (k < length regions) × (p ≡ lowest (region_at regions k)) × (n ≡ length (region_at regions k).points) × (32 < n)
    × ((j : ℕ) → j < k → length (region_at regions j).points ≤ 32)

-- the first region with more than 32 points, by its lowest point and its number of points, where there is one
abbrev pub FindsLarge : List Region → Option (ℕ × ℕ) → Type 0
FindsLarge regions (Some x) = IsFirstLarge regions x.0 x.1
FindsLarge regions None = AreSmallRegions regions

-- the first region that isn't sound, and its fault
abbrev pub IsFirstFault : Limits → List Region → SolveError → Type 0
IsFirstFault limits regions fault = (k : ℕ) × (k < length regions) × IsFaultOf limits (region_at regions k) fault
    × ((j : ℕ) → j < k → IsSound limits (region_at regions j))

-- Why the regions aren't solved: the first of more than 32 points, or else the first that isn't sound. Want of memory is free.
abbrev pub AreRefused : Limits → List Region → SolveError → Type 0
AreRefused limits regions (Points p n) = IsFirstLarge regions p n
AreRefused limits regions (Memory e) = Unit {0}
AreRefused limits regions fault = AreSmallRegions regions × IsFirstFault limits regions fault

-- the greatest number of steps: for each region the limit, or 3 to its points where that is less
abbrev pub most_steps : Limits → List Region → ℕ
most_steps limits regions = sum_by (λ r. min limits.positions (3 ^ length r.points)) regions
