-- Words have at most one job.
use Rattle.std.specs.Prelude.{◌≡◌, ℕ, List}
use Rattle.gd_words.specs.Job.{Job, IsJob}

-- words say at most one job
abbrev pub HasOneJob : Type 0
HasOneJob = (words : List (List ℕ)) (job other : Job) → IsJob words job → IsJob words other → job ≡ other
