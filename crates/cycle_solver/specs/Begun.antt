-- The game that a position opens where kos can arise, or why there is none.
use Rattle.std.specs.Prelude.{ℕ, Bool, ◌≡◌, ◌<◌, List, length, Result, Ok, Err}
use Rattle.go_grid.specs.declared.grid.Colour.{Colour}
use Rattle.go_grid.specs.declared.grid.Colour.TheVariants.{Black, White}
use Rattle.go_play.specs.Setup.{Setup}
use Rattle.go_grid.specs.Region.{Region}
use Rattle.region_cut.specs.Cut.{AreRegionsOfPlay, lowest}
use Rattle.short_games.specs.Tree.{Tree, tree_at}
use Rattle.local_trees.specs.Steady.{IsBudgetValue, IsLeastSteady}
use Rattle.endgame_solver.specs.Solved.{IsNumberOfPositions, OpensAs, Solved}
use Rattle.endgame_solver.specs.Limits.{Limits}
use Rattle.cycle_solver.specs.declared.cycle_game.CycleReport.{CycleReport}
use Rattle.cycle_solver.specs.CycleFaults.{AreRefused, AreSteadyWithin}
use Rattle.cycle_solver.specs.declared.faults.CycleError.{CycleError}
use Rattle.cycle_solver.specs.declared.faults.CycleError.TheVariants.{Memory}

-- the game that the position opens, with or without a tax, all of whose regions are steady within the limits, or why there is
-- none
abbrev pub Begun : Setup → Bool → Limits → ℕ → Result Solved CycleError → Type 0
Begun setup tax limits most (Ok game) = OpensAs setup tax game.state × AreRegionsOfPlay setup.board game.regions
    × AreSteadyWithin limits most game.regions
Begun setup tax limits most (Err (Memory e)) = Unit {0}
Begun setup tax limits most (Err fault) = (regions : List Region) × AreRegionsOfPlay setup.board regions × AreRefused limits most regions fault

-- the id is that of the colour's value of the opening, with the least budget at which the region is steady for it
abbrev pub IsSteadyId : List Tree → Region → Colour → ℕ → Type 0
IsSteadyId Ts r c id = (id < length Ts) × ((j : ℕ) × IsLeastSteady r.touch r.cells c j × IsBudgetValue r.touch c j r.cells (tree_at Ts id))

-- the report of a region: its lowest point, its points, its reachable positions and both values of its opening
pub record IsReport (Ts : List Tree) (r : Region) (report : CycleReport) : Type 0 where
  pub lowest_point : report.lowest ≡ lowest r
  pub points : report.points ≡ length r.points
  pub positions : IsNumberOfPositions r report.positions
  pub low : IsSteadyId Ts r Black report.low
  pub high : IsSteadyId Ts r White report.high
