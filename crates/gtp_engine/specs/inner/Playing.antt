-- What moves in a running game come to.
use Rattle.std.specs.Prelude.{◌≡◌, ℕ, List, Bool, Option, Some, None, false}
use Rattle.go_play.specs.Setup.{Setup}
use Rattle.cycle_solver.specs.declared.faults.CycleError.{CycleError}
use Rattle.cycle_solver.specs.declared.faults.CycleError.TheVariants as unsteady
use Rattle.engine_player.specs.EngineGame.{EngineGame}
use Rattle.engine_player.specs.Opening.{OpensGame, OpensNone}
use Rattle.endgame_solver.specs.Limits.{Limits}
use Rattle.endgame_solver.specs.declared.faults.SolveError.{SolveError}
use Rattle.endgame_solver.specs.declared.faults.SolveError.TheVariants.{Memory}
use Rattle.gtp_engine.specs.declared.playing.Action.{Action}
use Rattle.gtp_engine.specs.declared.playing.Action.TheVariants.{Play, Generate}
use Rattle.gtp_engine.specs.Session.{Generates, PlaysWanted, Said, reply_text}

-- a fault of a position, and no want of memory
abbrev pub IsFault : SolveError → Type 0
IsFault (Memory e) = ⊥
IsFault fault = Unit {0}

-- the same where regions may have cycles
abbrev pub IsCycleFault : CycleError → Type 0
IsCycleFault (unsteady.Memory e) = ⊥
IsCycleFault fault = Unit {0}

-- the game that the setup opens without a tax, or that it can't be opened
abbrev pub IsOpened : Bool → Limits → Setup → Option EngineGame → Type 0
IsOpened cycles limits setup (Some game) = OpensGame cycles limits false setup game
IsOpened cycles limits setup None = OpensNone cycles limits setup

-- what is said to an action in a running game, and the game after it
abbrev pub Acts : Action → EngineGame → Said → EngineGame → Type 0
Acts (Play wanted) p said q = PlaysWanted wanted p said q
Acts Generate p said q = Generates p said q

-- the reply to an action in a running game, and the game after it
abbrev pub IsActed : Action → List ℕ → EngineGame → List ℕ → EngineGame → Type 0
IsActed action id p reply q = (said : Said) × Acts action p said q × (reply ≡ reply_text id said)
