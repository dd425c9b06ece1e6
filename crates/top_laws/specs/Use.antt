-- What a run does to the objects of the outside: what it takes of the source, and for which file it asks the shelf.
use Rattle.std.specs.Prelude.{◌≡◌, ◌≢◌, ◌⊎◌, ⊤, ℕ, List}
use Rattle.desk_io.specs.Desk.{Desk, Outside, known}
use Rattle.desk_io.specs.Outside.{ended}
use Rattle.gd_words.specs.Job.{Job}
use Rattle.gd_words.specs.Task.{Task}
use Rattle.gd_words.specs.Task.Task.{ask, gtp, play}
use Rattle.endgame_run.specs.Engine.{AsksForLines, session_rules}
use Rattle.endgame_questions.specs.File.{TakesAtMost, dash, most_of_engine, most_of_file, most_of_game}
use Rattle.endgame_run.specs.Game.{IsPlayedGame}
use Rattle.endgame_run.specs.Limits.{terms_of}
use Rattle.endgame_run.specs.Run.{Runs}
use Rattle.endgame_questions.specs.declared.status.Status.{Status}
use Rattle.endgame_questions.specs.declared.status.Status.TheVariants.{Done}

-- the task asks a question about the file of the word
abbrev pub AsksAbout : Task → List ℕ → Type 0
AsksAbout (ask question file) word = word ≡ file
AsksAbout task word = ⊥

-- the most bytes of the source that a task takes
abbrev pub most_of : Task → ℕ
most_of (ask question word) = most_of_file
most_of (play word) = most_of_game
most_of gtp = most_of_engine
most_of task = 0

module _ {H S K : Type 0} (o : Outside H S K) where
  -- what a task does to the source: it is unread where a file of the shelf is asked about and where none is, and where no game is begun
  abbrev pub TouchesLines : Task → Job → Desk H S K → Status → Desk H S K → Type 0
  TouchesLines (play word) job a status b = (b.lines ≡ a.lines) ⊎ IsPlayedGame (terms_of job) job.cycles job.engine job.settings word (known o a) status (known o b)
  TouchesLines gtp job a status b = ⊤
  TouchesLines (ask question word) job a status b = word ≢ dash → b.lines ≡ a.lines
  TouchesLines task job a status b = b.lines ≡ a.lines

  -- what a task does to the shelf: it is asked for the file of the task's word, once, where that isn't the source's, by a session for the
  -- files of its lines, and else it is as before
  abbrev pub TouchesShelf : Task → Job → Desk H S K → Status → Desk H S K → Type 0
  TouchesShelf (play word) job a status b = o.shelves.asks a.shelf word b.shelf
  TouchesShelf gtp job a status b = AsksForLines o.shelves.asks (session_rules job) a.shelf (o.sources.left a.lines) status b.shelf (o.sources.left b.lines)
  TouchesShelf (ask question word) job a status b = (word ≡ dash → b.shelf ≡ a.shelf) × (word ≢ dash → o.shelves.asks a.shelf word b.shelf)
  TouchesShelf task job a status b = b.shelf ≡ a.shelf

  -- a file of the source is read to its end where the run is done
  abbrev pub ReadsToEnd : Type 0
  ReadsToEnd = (job : Job) (a b : Desk H S K) (status : Status) → Runs o job a status b → status ≡ Done → AsksAbout job.task dash → o.sources.left b.lines ≡ ended (o.sources.left a.lines)

  -- the source is unread but for the task
  abbrev pub LeavesLines : Type 0
  LeavesLines = (job : Job) (a b : Desk H S K) (status : Status) → Runs o job a status b → TouchesLines job.task job a status b

  -- no more is taken of the source than the task may take
  abbrev pub TakesFew : Type 0
  TakesFew = (job : Job) (a b : Desk H S K) (status : Status) → Runs o job a status b → TakesAtMost (most_of job.task) (o.sources.left a.lines) (o.sources.left b.lines)

  -- the shelf is asked for the files of the task alone
  abbrev pub AsksShelf : Type 0
  AsksShelf = (job : Job) (a b : Desk H S K) (status : Status) → Runs o job a status b → TouchesShelf job.task job a status b
