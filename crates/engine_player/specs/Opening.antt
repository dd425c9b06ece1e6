-- The game that a position opens for the engine, and that it opens none.
use Rattle.std.specs.Prelude.{◌≡◌, List, Bool, true, false, None, Some, Ok}
use Rattle.go_grid.specs.Region.{Region}
use Rattle.region_cut.specs.Cut.{AreRegionsOfPlay}
use Rattle.go_play.specs.Setup.{Setup}
use Rattle.endgame_solver.specs.Limits.{Limits}
use Rattle.endgame_solver.specs.Faults.{AreSound}
use Rattle.endgame_solver.specs.Solved.{IsPlayable}
use Rattle.cycle_solver.specs.CycleFaults.{AreSteadyWithin}
use Rattle.cycle_solver.specs.declared.limits.TheConstants.{MOST_CAPTURES}
use Rattle.engine_player.specs.Played.{BeginsPlay, Keeping}
use Rattle.engine_player.specs.EngineGame.{EngineGame}

-- the position opens the game within the limits, with or without a tax: with kos admitted, or without, and nothing is kept
abbrev pub OpensGame : Bool → Limits → Bool → Setup → EngineGame → Type 0
OpensGame false limits tax setup p = IsPlayable limits tax setup p.state × (p.keeping ≡ None)
OpensGame true limits tax setup p = (keeping : Keeping) × BeginsPlay setup tax limits MOST_CAPTURES (Ok (record { state = p.state; keeping = keeping }))
    × (p.keeping ≡ Some keeping)

-- the regions of play aren't all sound within the limits, or where kos are admitted not all steady
abbrev pub OpensNone : Bool → Limits → Setup → Type 0
OpensNone false limits setup = (regions : List Region) × AreRegionsOfPlay setup.board regions × ¬ AreSound limits regions
OpensNone true limits setup = (regions : List Region) × AreRegionsOfPlay setup.board regions × ¬ AreSteadyWithin limits MOST_CAPTURES regions
