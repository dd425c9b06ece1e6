-- What contracts see of words and jobs.
use Rattle.std.specs.Prelude.{ℕ, List, map}
use Rattle.gd_words.specs.declared.job.Command.{Command}
use Rattle.gd_words.specs.declared.job.Command.TheVariants as command
use Rattle.gd_words.specs.declared.job.Job as lent
use Rattle.gd_words.specs.declared.job.Question.TheVariants as question
use Rattle.gd_words.specs.Task.{Task, ask, play, trial, calc, gtp}
use Rattle.gd_words.specs.Job.{Job}
use denote.Ref.{Bor}

-- the words as texts, without where they lie in memory
abbrev pub texts : List (Bor (List ℕ)) → List (List ℕ)
texts words = map (λ word. word.now) words

-- the task that a command stands for
abbrev pub task_of : Command → Task
task_of (command.Solve file) = ask question.Solve file.now
task_of (command.Safe file) = ask question.Safe file.now
task_of (command.Values file) = ask question.Values file.now
task_of (command.Board file) = ask question.Board file.now
task_of (command.Margin file) = ask question.Margin file.now
task_of (command.Moves file) = ask question.Moves file.now
task_of (command.Line file) = ask question.Line file.now
task_of (command.WithCycles asked file) = ask (question.WithCycles asked) file.now
task_of (command.Play file) = play file.now
task_of (command.Trial n) = trial n
task_of (command.Calc expression) = calc expression.now
task_of command.Gtp = gtp

-- a job without where its words lie in memory
abbrev pub viewed : lent.Job → Job
viewed job = record {
  task = task_of job.command;
  settings = job.settings;
  positions = job.positions;
  parts = job.parts;
  engine = job.engine;
  tax = job.tax;
  cycles = job.cycles;
  keep_board = job.keep_board;
}
