-- A run of the program: what the words ask for, and what it comes to, by one line a command.
use Rattle.std.specs.Prelude.{◌≡◌, ◌⊎◌, ℕ, List, codes}
use Rattle.desk_io.specs.Desk.{Desk, Input, Outside}
use Rattle.gd_words.specs.Job.{IsOnlyJob, Job, SayNoJob}
use Rattle.gd_words.specs.Task.{Task}
use Rattle.gd_words.specs.Task.Task.{ask, calc, gtp, play, trial}
use Rattle.endgame_questions.specs.Calc.{RunsCalc}
use Rattle.endgame_run.specs.Engine.{AreSessionSteps, RunsEngine, session_rules}
use Rattle.endgame_questions.specs.File.{told_of}
use Rattle.endgame_run.specs.Game.{PlaysFile, question_of_game}
use Rattle.endgame_run.specs.Limits.{limits_of, terms_of}
use Rattle.endgame_questions.specs.Question.{AnswersQuestion, AreToldSteps}
use Rattle.endgame_questions.specs.Trial.{AreTrialSteps, RunsTrial}
use Rattle.endgame_questions.specs.Written.{Finishes}
use Rattle.endgame_questions.specs.declared.status.Status.{Status}
use Rattle.endgame_questions.specs.declared.status.Status.TheVariants.{Usage}

module _ {H S K : Type 0} (o : Outside H S K) where
  -- what a run for a task comes to, with the settings and the limits of its job
  abbrev pub RunsTask : Task → Job → Desk H S K → Status → Desk H S K → Type 0
  RunsTask (ask question word) job = AnswersQuestion o question (terms_of job) job.settings word
  RunsTask (play word) job = PlaysFile o (terms_of job) job.cycles job.engine job.settings word
  RunsTask (trial number) job = RunsTrial o number
  RunsTask (calc expression) job = RunsCalc o job.parts expression
  RunsTask gtp job = RunsEngine o (session_rules job)

  -- what a run for a job comes to
  abbrev pub Runs : Job → Desk H S K → Status → Desk H S K → Type 0
  Runs job = RunsTask job.task job

  -- the run of words outside the grammar: their fault is written, and nothing is read
  pub record RefusesWords (a : Desk H S K) (status : Status) (b : Desk H S K) : Type 0 where
    pub written : Finishes Usage (codes "fault usage\n") (o.sinks.faults a.out) (o.sinks.faults b.out) (o.sinks.holds a.out) (o.sinks.holds b.out) status
    pub shelf_unread : b.shelf ≡ a.shelf
    pub lines_unread : b.lines ≡ a.lines

  -- the words are those of one job, and the run is one for it, or they are outside the grammar
  abbrev pub RunsWords : List (List ℕ) → Desk H S K → Status → Desk H S K → Type 0
  RunsWords words a status b = (SayNoJob words × RefusesWords a status b) ⊎ ((job : Job) × IsOnlyJob words job × Runs job a status b)

-- the steps of a run for a task, which goes from one input to another
abbrev pub AreTaskSteps : Task → Job → Input → Input → ℕ → ℕ → Type 0
AreTaskSteps (ask question word) job i j = AreToldSteps question (limits_of job) (told_of i word) job.settings
AreTaskSteps (play word) job i j = AreToldSteps (question_of_game job.cycles) (limits_of job) (told_of i word) job.settings
AreTaskSteps (trial number) job i j = AreTrialSteps number
AreTaskSteps (calc expression) job i j = λ before now. now ≡ before
AreTaskSteps gtp job i j = AreSessionSteps (session_rules job) i j

-- the steps of a run for the words: none outside the grammar
abbrev pub AreSteps : List (List ℕ) → Input → Input → ℕ → ℕ → Type 0
AreSteps words i j before now = (SayNoJob words × (now ≡ before)) ⊎ ((job : Job) × IsOnlyJob words job × AreTaskSteps job.task job i j before now)
