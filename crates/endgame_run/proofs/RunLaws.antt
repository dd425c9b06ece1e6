-- How the run of each command makes the run for its job.
use Rattle.std.proofs.Common.{◌≡◌, ℕ, Bool, true, false, sym, subst, List}
use Rattle.std.specs.Prelude.{Option, cond}
use Rattle.desk_io.specs.Desk.{Desk, Input, Outside}
use Rattle.go_grid.specs.declared.grid.Colour.{Colour}
use Rattle.gd_words.specs.Job.{Job}
use Rattle.gd_words.specs.Task.{Task}
use Rattle.gd_words.specs.Task.Task.{ask, calc, gtp, play, trial}
use Rattle.endgame_questions.specs.declared.terms.GameTerms.{GameTerms}
use Rattle.gtp_engine.specs.declared.limits.EngineLimits.{EngineLimits}
use Rattle.board_session.specs.declared.limits.BoardLimits.{BoardLimits}
use Rattle.endgame_questions.specs.Calc.{RunsCalc}
use Rattle.endgame_run.specs.Engine.{AreSessionSteps, RunsEngine, board_rules, engine_rules}
use Rattle.endgame_questions.specs.File.{told_of}
use Rattle.endgame_run.specs.Game.{PlaysFile, question_of_game}
use Rattle.endgame_run.specs.Limits.{board_limits, engine_limits, terms_of}
use Rattle.endgame_questions.specs.Question.{AnswersQuestion, AreToldSteps}
use Rattle.endgame_run.specs.Run.{AreTaskSteps, Runs, RunsTask}
use Rattle.endgame_questions.specs.Trial.{RunsTrial}
use Rattle.gd_words.specs.declared.job.Question.{Question}
use Rattle.endgame_questions.specs.declared.status.Status.{Status}

module _ {H S K : Type 0} (o : Outside H S K) (job : Job) (a : Desk H S K) (status : Status) (b : Desk H S K) where
  pub question_runs : (q : Question) (terms : GameTerms) (word : List ℕ) → job.task ≡ ask q word → terms ≡ terms_of job → AnswersQuestion o q terms job.settings word a status b → Runs o job a status b
  question_runs q terms word is same h = subst (λ t. RunsTask o t job a status b) (sym is) (subst (λ l. AnswersQuestion o q l job.settings word a status b) same h)

  pub game_runs : (terms : GameTerms) (cycles : Bool) (given : Option Colour) (word : List ℕ) → job.task ≡ play word → terms ≡ terms_of job → cycles ≡ job.cycles
      → given ≡ job.engine → PlaysFile o terms cycles given job.settings word a status b → Runs o job a status b
  game_runs terms cycles given word is same kos own h =
      subst (λ t. RunsTask o t job a status b) (sym is) (subst (λ l. PlaysFile o l job.cycles job.engine job.settings word a status b) same
      (subst (λ k. PlaysFile o terms k job.engine job.settings word a status b) kos (subst (λ c. PlaysFile o terms cycles c job.settings word a status b) own h)))

  pub trial_runs : (number : ℕ) → job.task ≡ trial number → RunsTrial o number a status b → Runs o job a status b
  trial_runs number is h = subst (λ t. RunsTask o t job a status b) (sym is) h

  pub calc_runs : (limit : ℕ) (expression : List ℕ) → job.task ≡ calc expression → limit ≡ job.parts → RunsCalc o limit expression a status b → Runs o job a status b
  calc_runs limit expression is same h = subst (λ t. RunsTask o t job a status b) (sym is) (subst (λ l. RunsCalc o l expression a status b) same h)

  pub engine_runs : (limits : EngineLimits) → job.task ≡ gtp → job.keep_board ≡ false → limits ≡ engine_limits job → RunsEngine o (engine_rules limits) a status b → Runs o job a status b
  engine_runs limits is own same h = subst (λ t. RunsTask o t job a status b) (sym is)
      (subst (λ k. RunsEngine o (cond k (board_rules (board_limits job)) (engine_rules (engine_limits job))) a status b) (sym own)
      (subst (λ l. RunsEngine o (engine_rules l) a status b) same h))

  pub board_runs : (limits : BoardLimits) → job.task ≡ gtp → job.keep_board ≡ true → limits ≡ board_limits job → RunsEngine o (board_rules limits) a status b → Runs o job a status b
  board_runs limits is own same h = subst (λ t. RunsTask o t job a status b) (sym is)
      (subst (λ k. RunsEngine o (cond k (board_rules (board_limits job)) (engine_rules (engine_limits job))) a status b) (sym own)
      (subst (λ l. RunsEngine o (board_rules l) a status b) same h))

module _ (job : Job) (i j : Input) (before now : ℕ) where
  pub task_steps : (task : Task) → job.task ≡ task → AreTaskSteps task job i j before now → AreTaskSteps job.task job i j before now
  task_steps task is h = subst (λ t. AreTaskSteps t job i j before now) (sym is) h

  pub question_steps : (q : Question) (terms : GameTerms) (word : List ℕ) → job.task ≡ ask q word → terms ≡ terms_of job → AreToldSteps q terms.limits (told_of i word) job.settings before now
      → AreTaskSteps job.task job i j before now
  question_steps q terms word is same h = task_steps (ask q word) is (subst (λ l. AreToldSteps q l.limits (told_of i word) job.settings before now) same h)

  pub game_steps : (cycles : Bool) (terms : GameTerms) (word : List ℕ) → job.task ≡ play word → terms ≡ terms_of job → cycles ≡ job.cycles
      → AreToldSteps (question_of_game cycles) terms.limits (told_of i word) job.settings before now → AreTaskSteps job.task job i j before now
  game_steps cycles terms word is same kos h =
      task_steps (play word) is (subst (λ l. AreToldSteps (question_of_game job.cycles) l.limits (told_of i word) job.settings before now) same
      (subst (λ k. AreToldSteps (question_of_game k) terms.limits (told_of i word) job.settings before now) kos h))

  pub engine_steps : (limits : EngineLimits) → job.task ≡ gtp → job.keep_board ≡ false → limits ≡ engine_limits job → AreSessionSteps (engine_rules limits) i j before now → AreTaskSteps job.task job i j before now
  engine_steps limits is own same h = task_steps gtp is
      (subst (λ k. AreSessionSteps (cond k (board_rules (board_limits job)) (engine_rules (engine_limits job))) i j before now) (sym own)
      (subst (λ l. AreSessionSteps (engine_rules l) i j before now) same h))

  pub board_steps : (limits : BoardLimits) → job.task ≡ gtp → job.keep_board ≡ true → limits ≡ board_limits job → AreSessionSteps (board_rules limits) i j before now → AreTaskSteps job.task job i j before now
  board_steps limits is own same h = task_steps gtp is
      (subst (λ k. AreSessionSteps (cond k (board_rules (board_limits job)) (engine_rules (engine_limits job))) i j before now) (sym own)
      (subst (λ l. AreSessionSteps (board_rules l) i j before now) same h))
