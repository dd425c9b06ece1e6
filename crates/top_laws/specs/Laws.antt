-- The laws of the verdict.
use Rattle.std.specs.Prelude.{◌≡◌, ◌≢◌, ◌⊎◌, ◌≤◌, ◌<◌, ℕ, List, length, Option}
use Rattle.go_grid.specs.declared.grid.TheConstants.{MOST_POINTS}
use Rattle.go_grid.specs.declared.grid.Colour.{Colour}
use Rattle.go_grid.specs.Region.{Region}
use Rattle.sgf_go.specs.declared.settings.Settings.{Settings}
use Rattle.go_play.specs.Setup.{Setup}
use Rattle.endgame_questions.specs.declared.terms.GameTerms.{GameTerms}
use Rattle.endgame_solver.specs.declared.faults.SolveError.{SolveError}
use Rattle.endgame_solver.specs.Faults.{AreRefused, AreSound}
use Rattle.region_cut.specs.Cut.{AreRegionsOfPlay}
use Rattle.endgame_questions.specs.declared.status.Status.{Status}
use Rattle.engine_player.specs.EngineGame.{EngineGame}
use Rattle.endgame_questions.specs.declared.status.Status.TheVariants.{Done, FormLimit, TooManyLines}
use Rattle.gd_words.specs.Task.{NeedsRegions, TakesNoCycles}
use Rattle.gd_words.specs.declared.job.CycleQuestion.{CycleQuestion}
use Rattle.gd_words.specs.declared.job.CycleQuestion.TheVariants as cycle
use Rattle.gd_words.specs.declared.job.Question.{Question}
use Rattle.gd_words.specs.declared.job.Question.TheVariants.{Values, WithCycles}
use Rattle.report.specs.Values.{HasShownValue, IsFirstUnshown}
use Rattle.endgame_solver.specs.Regions.{region_at}
use Rattle.cycle_solver.specs.CycleFaults.{AreSteadyWithin}
use Rattle.cycle_solver.specs.CycleFaults as unsteady
use Rattle.cycle_solver.specs.declared.faults.CycleError.{CycleError}
use Rattle.cycle_report.specs.CycleValues.{HasShownValues, IsFirstCycleUnshown}
use Rattle.endgame_questions.specs.Calc.{IsCalc}
use Rattle.endgame_questions.specs.Cycles.{HasCycleStatus, most_captures}
use Rattle.endgame_run.specs.Game.{IsGameWritten}
use Rattle.endgame_questions.specs.Refusal.{HasStatus}
use Rattle.endgame_questions.specs.Question.{IsFileAnswer, IsPositionAnswer}

-- a question about a file has at most one status
abbrev pub HasOneStatus : Type 0
HasOneStatus = (question : Question) (terms : GameTerms) (file : List ℕ) (settings : Settings) (s t : Status) (a b : List ℕ)
    → IsFileAnswer question terms file settings s a → IsFileAnswer question terms file settings t b → s ≡ t

-- an expression has at most one status
abbrev pub ExpressionHasOneStatus : Type 0
ExpressionHasOneStatus = (limit : ℕ) (expression : List ℕ) (s t : Status) (a b : List ℕ) → IsCalc limit expression s a → IsCalc limit expression t b → s ≡ t

-- a question about a position whose regions are all sound is answered, but for values that can't all be shown
abbrev pub SolvesSound : Type 0
SolvesSound = (question : Question) (terms : GameTerms) (setup : Setup) (regions : List Region) (s : Status) (text : List ℕ)
    → TakesNoCycles question → question ≢ Values → AreRegionsOfPlay setup.board regions → AreSound terms.limits regions → IsPositionAnswer question terms setup s text → s ≡ Done

-- a position whose regions are all sound has its values shown, where each can be
abbrev pub ShowsShown : Type 0
ShowsShown = (terms : GameTerms) (setup : Setup) (regions : List Region) (s : Status) (text : List ℕ) → AreRegionsOfPlay setup.board regions → AreSound terms.limits regions
    → ((k : ℕ) → k < length regions → HasShownValue (region_at regions k)) → IsPositionAnswer Values terms setup s text → s ≡ Done

-- a position whose regions are all sound is refused for the first of them whose value can't be shown
abbrev pub RefusesUnshown : Type 0
RefusesUnshown = (terms : GameTerms) (setup : Setup) (regions : List Region) (p : ℕ) (s : Status) (text : List ℕ) → AreRegionsOfPlay setup.board regions → AreSound terms.limits regions
    → IsFirstUnshown regions p → IsPositionAnswer Values terms setup s text → s ≡ FormLimit

-- a position whose regions have a fault is refused with the status of that fault
abbrev pub RefusesFaults : Type 0
RefusesFaults = (question : Question) (terms : GameTerms) (setup : Setup) (regions : List Region) (fault : SolveError) (s t : Status) (text : List ℕ)
    → TakesNoCycles question → NeedsRegions question → AreRegionsOfPlay setup.board regions → AreRefused terms.limits regions fault → HasStatus fault t → IsPositionAnswer question terms setup s text → s ≡ t

-- a question about a position whose regions are all steady is answered, but for values that can't all be shown
abbrev pub SolvesSteady : Type 0
SolvesSteady = (question : CycleQuestion) (terms : GameTerms) (setup : Setup) (regions : List Region) (s : Status) (text : List ℕ)
    → question ≢ cycle.Values → AreRegionsOfPlay setup.board regions → AreSteadyWithin terms.limits most_captures regions → IsPositionAnswer (WithCycles question) terms setup s text
    → s ≡ Done

-- a position whose regions are all steady has its values shown, where each can be, and is else refused for the first that can't
pub record ShowsSteady : Type 0 where
  pub shown : (terms : GameTerms) (setup : Setup) (regions : List Region) (s : Status) (text : List ℕ) → AreRegionsOfPlay setup.board regions → AreSteadyWithin terms.limits most_captures regions
      → ((k : ℕ) → k < length regions → HasShownValues (region_at regions k)) → IsPositionAnswer (WithCycles cycle.Values) terms setup s text → s ≡ Done
  pub unshown : (terms : GameTerms) (setup : Setup) (regions : List Region) (p : ℕ) (s : Status) (text : List ℕ) → AreRegionsOfPlay setup.board regions
      → AreSteadyWithin terms.limits most_captures regions → IsFirstCycleUnshown regions p → IsPositionAnswer (WithCycles cycle.Values) terms setup s text → s ≡ FormLimit

-- a position whose regions may have cycles, and have a fault, is refused with the status of that fault
abbrev pub RefusesUnsteady : Type 0
RefusesUnsteady = (question : CycleQuestion) (terms : GameTerms) (setup : Setup) (regions : List Region) (fault : CycleError) (s t : Status) (text : List ℕ)
    → AreRegionsOfPlay setup.board regions → unsteady.AreRefused terms.limits most_captures regions fault → HasCycleStatus fault t → IsPositionAnswer (WithCycles question) terms setup s text → s ≡ t

-- a game over these bytes that no read and no write broke off has one status and one text
abbrev pub HasOneGame : Type 0
HasOneGame = (engine : Colour) (s : EngineGame) (bytes : List ℕ) (p q : Status) (before now new : Option (List ℕ)) → length s.state.board.cells ≤ MOST_POINTS
    → (p ≡ Done) ⊎ (p ≡ TooManyLines) → (q ≡ Done) ⊎ (q ≡ TooManyLines)
    → IsGameWritten engine s bytes before now p → IsGameWritten engine s bytes before new q → (p ≡ q) × (now ≡ new)
