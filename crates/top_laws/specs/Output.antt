-- What a run writes, and why it ends as it does, for every command.
use Rattle.std.specs.Prelude.{◌≡◌, ◌≢◌, ◌⊎◌, ℕ, List, take}
use Rattle.std.specs.Io.KnownBytes.{append_known}
use Rattle.desk_io.specs.Desk.{Desk, Input, Known, Outside, known}
use Rattle.desk_io.specs.Outside.{Rose}
use Rattle.gd_words.specs.Job.{Job, SayNoJob}
use Rattle.gd_words.specs.Task.{Task}
use Rattle.gd_words.specs.Task.Task.{ask, calc, gtp, play, trial}
use Rattle.endgame_questions.specs.Calc.{IsCalc}
use Rattle.endgame_run.specs.Engine.{IsEnginePlay, session_rules}
use Rattle.endgame_run.specs.Game.{IsPlayedGame, question_of_game}
use Rattle.endgame_run.specs.Limits.{terms_of}
use Rattle.endgame_questions.specs.Question.{IsAnswer}
use Rattle.endgame_run.specs.Run.{Runs, RunsWords}
use Rattle.endgame_questions.specs.Trial.{IsTrialAnswer}
use Rattle.endgame_questions.specs.declared.status.Status.{Status}
use Rattle.endgame_questions.specs.declared.status.Status.TheVariants.{CannotWrite, Done, Memory, Usage}

-- The statuses of a task that are decided at once, and their texts, by what is known of the input before and after: what keeps a file
-- from being solved keeps it from being played. A session decides by its turns.
abbrev pub IsDecided : Task → Job → Input → Input → Status → List ℕ → Type 0
IsDecided (ask question word) job = IsAnswer question (terms_of job) job.settings word
IsDecided (play word) job = λ i j s text. IsAnswer (question_of_game job.cycles) (terms_of job) job.settings word i j s text × (s ≢ Done)
IsDecided (trial number) job = λ i j. IsTrialAnswer number
IsDecided (calc expression) job = λ i j. IsCalc job.parts expression
IsDecided gtp job = λ i j s text. ⊥

-- a session was held: a game that was begun, or one of the engine
abbrev pub HoldsSession : Task → Job → Known → Status → Known → Type 0
HoldsSession (play word) job = IsPlayedGame (terms_of job) job.cycles job.engine job.settings word
HoldsSession gtp job = IsEnginePlay (session_rules job)
HoldsSession task job = λ a status b. ⊥

-- the cause of a status: want of memory, a write that failed and was counted, what was decided, or a session
abbrev pub HasReason : Task → Job → Known → Status → Known → Type 0
HasReason task job a status b =
    (status ≡ Memory) ⊎ (((status ≡ CannotWrite) × Rose a.writes b.writes)
    ⊎ (((text : List ℕ) × IsDecided task job a.input b.input status text) ⊎ HoldsSession task job a status b))

-- What is written of decided texts where the run isn't done: nothing for want of memory, a front part of one where a write failed, and else
-- the line of the status.
abbrev pub IsPart : (Status → List ℕ → Type 0) → Known → Status → Known → Type 0
IsPart decided a Memory b = b.holds ≡ a.holds
IsPart decided a CannotWrite b = (s : Status) × (text : List ℕ) × (n : ℕ) × decided s text × (b.holds ≡ append_known a.holds (take n text))
IsPart decided a status b = (line : List ℕ) × decided status line × (b.holds ≡ append_known a.holds line)

module _ {H S K : Type 0} (o : Outside H S K) where
  -- each status has its cause
  abbrev pub HasCauses : Type 0
  HasCauses = (job : Job) (a b : Desk H S K) (status : Status) → Runs o job a status b → HasReason job.task job (known o a) status (known o b)

  -- a failed write was counted
  abbrev pub CountsWrites : Type 0
  CountsWrites = (words : List (List ℕ)) (a b : Desk H S K) (status : Status) → RunsWords o words a status b → status ≡ CannotWrite → Rose (o.sinks.faults a.out) (o.sinks.faults b.out)

  -- what a run has written that isn't done: a part of what was decided, or of a session, with the line of a fault behind it
  abbrev pub WritesPart : Type 0
  WritesPart = (job : Job) (a b : Desk H S K) (status : Status) → Runs o job a status b → status ≢ Done
      → IsPart (IsDecided job.task job (known o a).input (known o b).input) (known o a) status (known o b) ⊎ HoldsSession job.task job (known o a) status (known o b)

  -- words outside the grammar are refused as such
  abbrev pub RefusesNoJob : Type 0
  RefusesNoJob = (words : List (List ℕ)) (a b : Desk H S K) (status : Status) → RunsWords o words a status b → SayNoJob words → (status ≡ Usage) ⊎ (status ≡ CannotWrite)
