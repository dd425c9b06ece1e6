-- When a run is answered: nothing keeps it from its text but want of memory.
use Rattle.std.specs.Prelude.{◌≡◌, ◌⊎◌, ◌<◌, ℕ, List, length, ⊤, IfSome, Ok}
use Rattle.desk_io.specs.Desk.{Desk, Known, Outside, known}
use Rattle.desk_io.specs.Files.Told.{holding}
use Rattle.desk_io.specs.Outside.{Rose}
use Rattle.go_grid.specs.Region.{Region}
use Rattle.sgf_go.specs.File.{HasFewBytes, Reads}
use Rattle.sgf_go.specs.declared.settings.Settings.{Settings}
use Rattle.go_play.specs.Setup.{Setup}
use Rattle.game_calc.specs.Answer.{IsCalcRefusal}
use Rattle.game_calc.specs.declared.errors.CalcError.TheVariants as calc_error
use Rattle.game_calc.specs.declared.errors.CalcFault.{CalcFault}
use Rattle.gd_words.specs.Job.{Job}
use Rattle.gd_words.specs.declared.job.Question.{Question}
use Rattle.gd_words.specs.declared.job.Question.TheVariants.{Board, Safe, Values, WithCycles}
use Rattle.endgame_questions.specs.declared.terms.GameTerms.{GameTerms}
use Rattle.gd_words.specs.Task.{Task}
use Rattle.gd_words.specs.Task.Task.{ask, calc, gtp, play, trial}
use Rattle.region_cut.specs.Cut.{AreRegionsOfPlay}
use Rattle.endgame_solver.specs.Faults.{AreSound}
use Rattle.endgame_solver.specs.Regions.{region_at}
use Rattle.report.specs.Values.{HasShownValue}
use Rattle.play_session.specs.declared.end.SessionEnd.TheVariants as end
use Rattle.gtp_words.specs.declared.end.GtpEnd.TheVariants as gtp_end
use Rattle.endgame_questions.specs.Cycles.{IsSteadyFor}
use Rattle.endgame_run.specs.Engine.{AreFailedLoads, IsEngineSession, session_rules}
use Rattle.endgame_questions.specs.File.{told_of}
use Rattle.endgame_run.specs.Game.{IsGame, IsSessionOf, question_of_game}
use Rattle.go_grid.specs.declared.grid.Colour.{Colour}
use Rattle.engine_player.specs.EngineGame.{EngineGame}
use Rattle.endgame_run.specs.Limits.{terms_of}
use Rattle.endgame_run.specs.Run.{Runs}
use Rattle.endgame_questions.specs.declared.status.Status.{Status}
use Rattle.endgame_questions.specs.declared.status.Status.TheVariants.{Done, Memory, TooManyLines}

-- the regions of play that the question asks about are all sound within its limits, or steady where they may have cycles, and the values that
-- it asks for can all be shown
abbrev pub IsWithinLimits : Question → GameTerms → Setup → Type 0
IsWithinLimits Safe terms setup = ⊤
IsWithinLimits Board terms setup = ⊤
IsWithinLimits Values terms setup = (regions : List Region) × AreRegionsOfPlay setup.board regions × AreSound terms.limits regions
    × ((k : ℕ) → k < length regions → HasShownValue (region_at regions k))
IsWithinLimits (WithCycles asked) terms setup = IsSteadyFor asked terms setup
IsWithinLimits question terms setup = (regions : List Region) × AreRegionsOfPlay setup.board regions × AreSound terms.limits regions

-- no read, no load and no write has failed
pub record IsCalm (a b : Known) : Type 0 where
  pub loads : ¬ Rose a.input.loads b.input.loads
  pub reads : ¬ Rose a.input.reads b.input.reads
  pub writes : ¬ Rose a.writes b.writes

-- the file of the word is told, it is read, all that the question asks is within its limits, and no count of faults has risen
pub record IsAnswerable (question : Question) (terms : GameTerms) (settings : Settings) (word : List ℕ) (a b : Known) : Type 0 where
  pub file : List ℕ
  pub setup : Setup
  pub told : told_of a.input word ≡ holding file
  pub short : HasFewBytes file
  pub reads : Reads file settings (Ok setup)
  pub within : IsWithinLimits question terms setup
  pub calm : IsCalm a b

-- the run is done, or memory was wanted
abbrev pub IsDone : Status → Type 0
IsDone status = (status ≡ Done) ⊎ (status ≡ Memory)

-- 10,000 lines were read of a game, and its session over the bytes ends so
abbrev pub HasManyLines : Job → List ℕ → Known → Status → Type 0
HasManyLines job word a status = (status ≡ TooManyLines) × ((engine : Colour) × (s : EngineGame) × IsGame (terms_of job) job.cycles job.engine job.settings word a.input engine s
    × IfSome a.input.left (λ bytes. (text : List ℕ) × IsSessionOf engine s bytes end.TooManyLines text))

-- 10,000 lines were read of a session of the engine, which over the bytes ends so
abbrev pub HasManyCommands : Job → Known → Status → Known → Type 0
HasManyCommands job a status b = (status ≡ TooManyLines) × ((failing : List ℕ) × AreFailedLoads a.input.loads b.input.loads failing
    × IfSome a.input.left (λ bytes. (text : List ℕ) × IsEngineSession (session_rules job) a.input.files failing bytes b.input.left gtp_end.TooManyLines text))

-- no refusal meets the expression within the limit of parts
abbrev pub IsUnrefused : ℕ → List ℕ → Type 0
IsUnrefused limit expression = ((fault : CalcFault) → ¬ IsCalcRefusal limit expression (calc_error.Fault fault)) × ¬ IsCalcRefusal limit expression calc_error.Limit

-- Where nothing keeps a task from its text it is done, but for want of memory. A game and a session may also have come to 10,000 lines;
-- a load that fails keeps the engine from nothing.
abbrev pub IsComplete : Task → Job → Known → Status → Known → Type 0
IsComplete (ask question word) job a status b = IsAnswerable question (terms_of job) job.settings word a b → IsDone status
IsComplete (play word) job a status b = IsAnswerable (question_of_game job.cycles) (terms_of job) job.settings word a b → IsDone status ⊎ HasManyLines job word a status
IsComplete (trial number) job a status b = ¬ Rose a.writes b.writes → IsDone status
IsComplete (calc expression) job a status b = IsUnrefused job.parts expression → ¬ Rose a.writes b.writes → IsDone status
IsComplete gtp job a status b = ¬ Rose a.input.reads b.input.reads → ¬ Rose a.writes b.writes → IsDone status ⊎ HasManyCommands job a status b

-- where nothing keeps a run from its text, it is answered
abbrev pub IsAnswered : {H S K : Type 0} → Outside H S K → Type 0
IsAnswered {H} {S} {K} o = (job : Job) (a b : Desk H S K) (status : Status) → Runs o job a status b → IsComplete job.task job (known o a) status (known o b)
