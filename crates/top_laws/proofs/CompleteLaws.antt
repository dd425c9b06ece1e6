-- Where nothing keeps a run from its text it is done, but for want of memory.
use Rattle.std.proofs.Common.{◌≡◌, ℕ, ◌⊎◌, inl, inr, refl, sym, ◌∙◌, subst, arith, List, Bool, true, false, Ok, Err}
use Rattle.std.specs.Prelude.{Option, codes, if◌then◌else◌}
use Rattle.std.specs.Str.{bytes_eq}
use Rattle.desk_io.specs.Desk.{Desk, Known, Outside, known}
use Rattle.desk_io.specs.Files.Told.{absent, holding}
use Rattle.desk_io.specs.Files.{IsLonger, IsTold, Told}
use Rattle.desk_io.specs.Outside.{Rose}
use Rattle.sgf_tree.specs.declared.reader.TheConstants.{MOST_BYTES}
use Rattle.sgf_go.specs.File.{HasFewBytes, Reads}
use Rattle.sgf_go.specs.declared.fault.FileFault.{FileFault}
use Rattle.sgf_go.specs.declared.settings.Settings.{Settings}
use Rattle.go_play.specs.Setup.{Setup}
use Rattle.sgf_go.proofs.OneReadingLemmas.{not_both, one_setup}
use Rattle.gd_words.specs.Job.{Job}
use Rattle.gd_words.specs.Task.{Task}
use Rattle.gd_words.specs.Task.Task.{ask, calc, gtp, play, trial}
use Rattle.endgame_questions.specs.Calc.{IsCalc}
use Rattle.top_laws.specs.Complete.{HasManyCommands, HasManyLines, IsAnswerable, IsAnswered, IsCalm, IsComplete, IsDone, IsUnrefused, IsWithinLimits}
use Rattle.endgame_run.specs.Engine.{IsEnginePlay, session_rules}
use Rattle.endgame_questions.specs.File.{count_of, told_of}
use Rattle.endgame_run.specs.Game.{IsPlayedGame, question_of_game}
use Rattle.endgame_run.specs.Limits.{terms_of}
use Rattle.endgame_questions.specs.Question.{IsAnswer, IsFileAnswer, IsPositionAnswer}
use Rattle.endgame_run.specs.Run.{RunsTask}
use Rattle.endgame_questions.specs.Trial.{IsTrialAnswer}
use Rattle.endgame_questions.specs.Written.{Reports}
use Rattle.endgame_questions.specs.declared.terms.GameTerms.{GameTerms}
use Rattle.gd_words.specs.declared.job.Question.{Question}
use Rattle.gd_words.specs.declared.job.Question.TheVariants as question
use Rattle.endgame_questions.specs.declared.status.Status.{Status}
use Rattle.endgame_questions.specs.declared.status.Status.TheVariants.{CannotRead, CannotWrite, Done, Memory, TooManyLines}
use Rattle.endgame_questions.specs.declared.status.Status.TheVariants as status
use Rattle.top_laws.proofs.CycleLaws.{steady_done}
use Rattle.top_laws.proofs.GameWinLaws.{map_told}
use Rattle.top_laws.proofs.OneStatusLaws.{file_or_position, plain_done, shows_shown, solves_sound}
use Rattle.top_laws.proofs.CauseLaws.{reason}

-- neither count has risen, and so not that of the object that holds the file
count_stays : (word : List ℕ) (a b : Known) → IsCalm a b → ¬ Rose (count_of a.input word) (count_of b.input word)
count_stays word a b calm = go (bytes_eq word (codes "-")) where
  go : (k : Bool) → ¬ Rose (if k then a.input.reads else a.input.loads) (if k then b.input.reads else b.input.loads)
  go true = calm.reads
  go false = calm.loads

within_done : (q : Question) (terms : GameTerms) (setup : Setup) (s : Status) (text : List ℕ) → IsWithinLimits q terms setup → IsPositionAnswer q terms setup s text → s ≡ Done
within_done question.Values terms setup s text w h = shows_shown terms setup w.0 s text w.1 w.2 w.3 h
within_done question.Solve terms setup s text w h = solves_sound question.Solve terms setup w.0 s text tt (λ e. absurd cc) w.1 w.2 h
within_done question.Margin terms setup s text w h = solves_sound question.Margin terms setup w.0 s text tt (λ e. absurd cc) w.1 w.2 h
within_done question.Moves terms setup s text w h = solves_sound question.Moves terms setup w.0 s text tt (λ e. absurd cc) w.1 w.2 h
within_done question.Line terms setup s text w h = solves_sound question.Line terms setup w.0 s text tt (λ e. absurd cc) w.1 w.2 h
within_done (question.WithCycles asked) terms setup s text w h = steady_done asked terms setup s text w h
within_done question.Safe terms setup s text w h = plain_done question.Safe terms setup s text (λ n. n) h
within_done question.Board terms setup s text w h = plain_done question.Board terms setup s text (λ n. n) h

-- an answer about the file is the text
file_done : (q : Question) (terms : GameTerms) (file : List ℕ) (settings : Settings) (setup : Setup) (s : Status) (text : List ℕ) → Reads file settings (Ok setup) → IsWithinLimits q terms setup → IsFileAnswer q terms file settings s text → s ≡ Done
file_done q terms file settings setup s text reads within h = go (file_or_position q terms file settings s text h) where
  go : ((f : FileFault) × (s ≡ status.BadFile f) × Reads file settings (Err f)) ⊎ ((p : Setup) × Reads file settings (Ok p) × IsPositionAnswer q terms p s text) → s ≡ Done
  go (inl (f, e, bad)) = absurd (not_both file settings setup f reads bad)
  go (inr (p, r, a)) = within_done q terms setup s text within (subst (λ x. IsPositionAnswer q terms x s text) (one_setup file settings p setup r reads) a)

module _ (q : Question) (terms : GameTerms) (settings : Settings) (word : List ℕ) (a b : Known) (h : IsAnswerable q terms settings word a b) where
  by_file : (s : Status) (text : List ℕ) → (file : List ℕ) × IsTold (told_of a.input word) file × HasFewBytes file × IsFileAnswer q terms file settings s text → s ≡ Done
  by_file s text (file, told, short, answer) =
      let k : IsTold (holding h.file) file = subst (λ x. IsTold x file) h.told told in
      file_done q terms h.file settings h.setup s text h.reads h.within (subst (λ f. IsFileAnswer q terms f settings s text) (sym k) answer)

  not_absent : told_of a.input word ≡ absent → ⊥
  not_absent none = let k : Path Told (holding h.file) absent = sym h.told ∙ none in cc

  not_longer : IsLonger MOST_BYTES (told_of a.input word) → ⊥
  not_longer long = let k : IsLonger MOST_BYTES (holding h.file) = subst (IsLonger MOST_BYTES) h.told long in omega (arith, h.short, k)

  answer_done : (s : Status) (text : List ℕ) → IsAnswer q terms settings word a.input b.input s text → s ≡ Done
  answer_done CannotRead text (inl none, is) = absurd (not_absent none)
  answer_done CannotRead text (inr rose, is) = absurd (count_stays word a b h.calm rose)
  answer_done status.TooLong text (long, is) = absurd (not_longer long)
  answer_done Done text answer = refl
  answer_done Memory text answer = by_file Memory text answer
  answer_done CannotWrite text answer = by_file CannotWrite text answer
  answer_done TooManyLines text answer = by_file TooManyLines text answer
  answer_done status.Usage text answer = by_file status.Usage text answer
  answer_done status.Cycle text answer = by_file status.Cycle text answer
  answer_done status.RegionLimit text answer = by_file status.RegionLimit text answer
  answer_done status.FormLimit text answer = by_file status.FormLimit text answer
  answer_done (status.BadFile f) text answer = by_file (status.BadFile f) text answer
  answer_done (status.BadExpression f) text answer = by_file (status.BadExpression f) text answer
  answer_done status.CalcLimit text answer = by_file status.CalcLimit text answer
  answer_done status.CaptureLimit text answer = by_file status.CaptureLimit text answer

-- what is decided of which nothing else than `Done` holds is done
decided_done : (decided : Status → List ℕ → Type 0) (w x : ℕ) (before now : Option (List ℕ)) (s : Status) → ((t : Status) (text : List ℕ) → decided t text → t ≡ Done) → ¬ Rose w x
    → Reports decided w x before now s → IsDone s
decided_done decided w x before now s only calm r = elim (reason decided w x before now s r) [
  | inl m ↦ inr m
  | inr (inl f) ↦ absurd (calm f.1)
  | inr (inr d) ↦ inl (only s d.0 d.1)
]

calc_done : (limit : ℕ) (expression : List ℕ) → IsUnrefused limit expression → (s : Status) (text : List ℕ) → IsCalc limit expression s text → s ≡ Done
calc_done limit expression none Done text h = refl
calc_done limit expression none (status.BadExpression f) text h = absurd (none.0 f h.0)
calc_done limit expression none status.CalcLimit text h = absurd (none.1 h.0)
calc_done limit expression none status.CaptureLimit text h = absurd h
calc_done limit expression none Memory text h = absurd h
calc_done limit expression none CannotRead text h = absurd h
calc_done limit expression none CannotWrite text h = absurd h
calc_done limit expression none TooManyLines text h = absurd h
calc_done limit expression none status.Usage text h = absurd h
calc_done limit expression none status.TooLong text h = absurd h
calc_done limit expression none status.Cycle text h = absurd h
calc_done limit expression none status.RegionLimit text h = absurd h
calc_done limit expression none status.FormLimit text h = absurd h
calc_done limit expression none (status.BadFile f) text h = absurd h

-- a game that no read and no write broke off
game_done : (job : Job) (word : List ℕ) (a b : Known) (s : Status) → IsCalm a b → IsPlayedGame (terms_of job) job.cycles job.engine job.settings word a s b → IsDone s ⊎ HasManyLines job word a s
game_done job word a b Done calm g = inl (inl refl)
game_done job word a b TooManyLines calm (engine, state, game, run) = inr (refl, (engine, state, game, map_told _ _ a.input.left (λ bytes h. (h.0, h.2.0)) run.written))
game_done job word a b CannotRead calm (engine, state, game, run) = absurd (calm.reads (run.read refl))
game_done job word a b CannotWrite calm (engine, state, game, run) = absurd (calm.writes (run.write refl))
game_done job word a b Memory calm (engine, state, game, run) = absurd run.begun
game_done job word a b status.Usage calm (engine, state, game, run) = absurd run.begun
game_done job word a b status.TooLong calm (engine, state, game, run) = absurd run.begun
game_done job word a b status.Cycle calm (engine, state, game, run) = absurd run.begun
game_done job word a b status.RegionLimit calm (engine, state, game, run) = absurd run.begun
game_done job word a b status.FormLimit calm (engine, state, game, run) = absurd run.begun
game_done job word a b (status.BadFile f) calm (engine, state, game, run) = absurd run.begun
game_done job word a b (status.BadExpression f) calm (engine, state, game, run) = absurd run.begun
game_done job word a b status.CalcLimit calm (engine, state, game, run) = absurd run.begun
game_done job word a b status.CaptureLimit calm (engine, state, game, run) = absurd run.begun

-- a session that no read and no write broke off
engine_done : (job : Job) (a b : Known) (s : Status) → ¬ Rose a.input.reads b.input.reads → ¬ Rose a.writes b.writes → IsEnginePlay (session_rules job) a s b → IsDone s ⊎ HasManyCommands job a s b
engine_done job a b Done read write e = inl (inl refl)
engine_done job a b Memory read write e = inl (inr refl)
engine_done job a b TooManyLines read write e = inr (refl, (e.failing, e.failed, map_told _ _ a.input.left (λ bytes h. (h.0, h.2.0)) e.written))
engine_done job a b CannotRead read write e = absurd (read (e.read refl))
engine_done job a b CannotWrite read write e = absurd (write (e.write refl))
engine_done job a b status.Usage read write e = absurd e.ends
engine_done job a b status.TooLong read write e = absurd e.ends
engine_done job a b status.Cycle read write e = absurd e.ends
engine_done job a b status.RegionLimit read write e = absurd e.ends
engine_done job a b status.FormLimit read write e = absurd e.ends
engine_done job a b (status.BadFile f) read write e = absurd e.ends
engine_done job a b (status.BadExpression f) read write e = absurd e.ends
engine_done job a b status.CalcLimit read write e = absurd e.ends
engine_done job a b status.CaptureLimit read write e = absurd e.ends

module _ {H S K : Type 0} (o : Outside H S K) (job : Job) (a b : Desk H S K) (s : Status) where
  complete : (task : Task) → RunsTask o task job a s b → IsComplete task job (known o a) s (known o b)
  complete (ask q word) r = λ h. decided_done _ _ _ _ _ s (answer_done q (terms_of job) job.settings word (known o a) (known o b) h) h.calm.writes r.written
  complete (trial number) r = λ calm. decided_done (IsTrialAnswer number) _ _ _ _ s (λ t text d. d.0) calm r.written
  complete (calc expression) r = λ none calm. decided_done (IsCalc job.parts expression) _ _ _ _ s (calc_done job.parts expression none) calm r.written
  complete gtp r = λ read write. engine_done job (known o a) (known o b) s read write r.played
  complete (play word) r = λ h. elim r.outcome [
    | inl u ↦ inl (decided_done _ _ _ _ _ s (λ t text d. answer_done (question_of_game job.cycles) (terms_of job) job.settings word (known o a) (known o b) h t text d.0) h.calm.writes u.0)
    | inr g ↦ game_done job word (known o a) (known o b) s h.calm g
  ]

pub is_answered : {H S K : Type 0} (o : Outside H S K) → IsAnswered o
is_answered o job a b s r = complete o job a b s job.task r
