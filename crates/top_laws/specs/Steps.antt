-- How many steps a run takes: one for each position of a region that is expanded.
use Rattle.std.specs.Prelude.{◌≡◌, ◌⊎◌, ◌+◌, ◌≤◌, ℕ, zero, suc, List, Ok, Some, None, Option}
use Rattle.desk_io.specs.Desk.{Input}
use Rattle.desk_io.specs.Files.Told.{holding}
use Rattle.desk_io.specs.Lines.{IsLine}
use Rattle.go_grid.specs.Region.{Region}
use Rattle.sgf_go.specs.File.{Reads}
use Rattle.go_play.specs.Setup.{Setup}
use Rattle.gd_words.specs.Job.{Job}
use Rattle.gd_words.specs.Task.{NeedsRegions, Task}
use Rattle.gd_words.specs.Task.Task.{ask, calc, play, trial}
use Rattle.region_cut.specs.Cut.{AreRegionsOfPlay}
use Rattle.endgame_solver.specs.Faults.{most_steps}
use Rattle.endgame_solver.specs.Limits.{Limits}
use Rattle.endgame_run.specs.Engine.{AreSessionSteps, session_rules}
use Rattle.endgame_questions.specs.File.{told_of}
use Rattle.endgame_run.specs.Limits.{limits_of}
use Rattle.endgame_run.specs.Run.{AreTaskSteps}
use Rattle.endgame_questions.specs.Trial.{IsTrialPosition, trial_limits}

-- the file that a task is about
abbrev pub file_of : Task → Option (List ℕ)
file_of (ask question word) = Some word
file_of (play word) = Some word
file_of task = None

-- the task is about this position within these limits: it is that of its file, which is told, or that of its number
abbrev pub IsAbout : Task → Job → Input → Limits → Setup → Type 0
IsAbout task job i limits setup =
    ((word file : List ℕ) × (file_of task ≡ Some word) × (limits ≡ limits_of job) × (told_of i word ≡ holding file) × Reads file job.settings (Ok setup))
    ⊎ ((number : ℕ) × (task ≡ trial number) × (limits ≡ trial_limits) × IsTrialPosition number setup)

-- the task needs no regions of play
abbrev pub NeedsNoRegions : Task → Type 0
NeedsNoRegions (ask question word) = ¬ NeedsRegions question
NeedsNoRegions (calc expression) = Unit {0}
NeedsNoRegions task = ⊥

-- the steps for the regions of play of the position that a job is about
abbrev pub TakesFewSteps : Type 0
TakesFewSteps = (job : Job) (i j : Input) (limits : Limits) (setup : Setup) (regions : List Region) (before now : ℕ) → AreTaskSteps job.task job i j before now
    → IsAbout job.task job i limits setup → AreRegionsOfPlay setup.board regions → now ≤ before + most_steps limits regions

-- no steps where no regions of play are needed
abbrev pub TakesNoSteps : Type 0
TakesNoSteps = (job : Job) (i j : Input) (before now : ℕ) → AreTaskSteps job.task job i j before now → NeedsNoRegions job.task → now ≡ before

-- so many lines stand at the front of the bytes, before these
abbrev pub AreLinesBefore : ℕ → List ℕ → List ℕ → Type 0
AreLinesBefore zero bytes rest = rest ≡ bytes
AreLinesBefore (suc n) bytes rest = (behind line : List ℕ) × AreLinesBefore n bytes behind × IsLine 1024 behind line rest

-- the bytes have this line
abbrev pub HaveLine : List ℕ → List ℕ → Type 0
HaveLine bytes line = (n : ℕ) × (behind rest : List ℕ) × AreLinesBefore n bytes behind × IsLine 1024 behind line rest

-- no steps in a session over bytes none of whose lines takes any
abbrev pub IdleTakesNoSteps : Type 0
IdleTakesNoSteps = (job : Job) (i j : Input) (bytes : List ℕ) (before now : ℕ) → AreSessionSteps (session_rules job) i j before now → i.left ≡ Some bytes
    → ((line : List ℕ) → HaveLine bytes line → (s : (session_rules job).State) (a b : ℕ) → (session_rules job).Steps s line a b → b ≡ a) → now ≡ before
