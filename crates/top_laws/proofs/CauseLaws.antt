-- Each status of a run has its cause and its part of a text.
use Rattle.std.proofs.Common.{◌≡◌, ◌⊎◌, ℕ, inl, inr, sym, subst, ◌∙◌, List}
use Rattle.std.specs.Prelude.{Option}
use Rattle.std.specs.Io.KnownBytes.{append_known}
use Rattle.desk_io.specs.Desk.{Desk, Input, Known, Outside, known}
use Rattle.desk_io.specs.Outside.{Rose}
use Rattle.gd_words.specs.Job.{Job}
use Rattle.gd_words.specs.Task.{Task}
use Rattle.gd_words.specs.Task.Task.{ask, calc, gtp, play, trial}
use Rattle.sgf_go.specs.declared.settings.Settings.{Settings}
use Rattle.endgame_questions.specs.declared.terms.GameTerms.{GameTerms}
use Rattle.endgame_run.specs.Limits.{terms_of}
use Rattle.top_laws.specs.Output.{CountsWrites, HasCauses, HasReason, HoldsSession, IsDecided, IsPart, RefusesNoJob, WritesPart}
use Rattle.endgame_questions.specs.Question.{IsAnswer}
use Rattle.endgame_run.specs.Run.{RunsTask}
use Rattle.endgame_questions.specs.Written.{Reports}
use Rattle.gd_words.specs.declared.job.Question.{Question}
use Rattle.endgame_questions.specs.declared.status.Status.{Status}
use Rattle.endgame_questions.specs.declared.status.Status.TheVariants.{CannotWrite, Done, Memory}
use Rattle.endgame_questions.specs.declared.status.Status.TheVariants as status

-- want of memory and failed writes are decided of no text
record IsProper (decided : Status → List ℕ → Type 0) : Type 0 where
  memory : (text : List ℕ) → ¬ decided Memory text
  write : (text : List ℕ) → ¬ decided CannotWrite text

module _ (decided : Status → List ℕ → Type 0) (w x : ℕ) (before now : Option (List ℕ)) (status : Status) where
  pub reason : Reports decided w x before now status → (status ≡ Memory) ⊎ (((status ≡ CannotWrite) × Rose w x) ⊎ ((text : List ℕ) × decided status text))
  reason (inl m) = inl m.0
  reason (inr (s, text, d, inl f)) = inr (inr (text, subst (λ r. decided r text) (sym f.0) d))
  reason (inr (s, text, d, inr f)) = inr (inl (f.0, f.1))

  counted : IsProper decided → Reports decided w x before now status → status ≡ CannotWrite → Rose w x
  counted proper r e = elim (reason r) [
    | inl m ↦ absurd (let k : Path Status CannotWrite Memory = sym e ∙ m in cc)
    | inr (inl f) ↦ f.1
    | inr (inr d) ↦ absurd (proper.write d.0 (subst (λ s. decided s d.0) e d.1))
  ]

module _ (decided : Status → List ℕ → Type 0) (proper : IsProper decided) (a b : Known) where
  whole : (s : Status) (text : List ℕ) → decided s text → b.holds ≡ append_known a.holds text → IsPart decided a s b
  whole Memory text d e = absurd (proper.memory text d)
  whole CannotWrite text d e = absurd (proper.write text d)
  whole Done text d e = (text, d, e)
  whole status.Usage text d e = (text, d, e)
  whole status.CannotRead text d e = (text, d, e)
  whole status.TooManyLines text d e = (text, d, e)
  whole status.TooLong text d e = (text, d, e)
  whole status.Cycle text d e = (text, d, e)
  whole status.RegionLimit text d e = (text, d, e)
  whole status.FormLimit text d e = (text, d, e)
  whole (status.BadFile f) text d e = (text, d, e)
  whole (status.BadExpression f) text d e = (text, d, e)
  whole status.CalcLimit text d e = (text, d, e)
  whole status.CaptureLimit text d e = (text, d, e)

  part : (s : Status) → Reports decided a.writes b.writes a.holds b.holds s → IsPart decided a s b
  part s (inl m) = subst (λ r. IsPart decided a r b) (sym m.0) m.1
  part s (inr (t, text, d, inl f)) = subst (λ r. IsPart decided a r b) (sym f.0) (whole t text d f.1)
  part s (inr (t, text, d, inr f)) = subst (λ r. IsPart decided a r b) (sym f.0) (t, text, f.2.0, d, f.2.1)

-- the texts of every task are proper
answers_proper : (q : Question) (terms : GameTerms) (settings : Settings) (word : List ℕ) (i j : Input) → IsProper (IsAnswer q terms settings word i j)
answers_proper q terms settings word i j = record { memory = λ text h. h.3.2; write = λ text h. h.3.2 }

decided_proper : (task : Task) (job : Job) (i j : Input) → IsProper (IsDecided task job i j)
decided_proper (ask q word) job i j = answers_proper q (terms_of job) job.settings word i j
decided_proper (play word) job i j = record { memory = λ text h. h.0.3.2; write = λ text h. h.0.3.2 }
decided_proper (trial number) job i j = record { memory = λ text h. absurd (let k : Path Status Memory Done = h.0 in cc); write = λ text h. absurd (let k : Path Status CannotWrite Done = h.0 in cc) }
decided_proper (calc expression) job i j = record { memory = λ text h. h; write = λ text h. h }
decided_proper gtp job i j = record { memory = λ text h. h; write = λ text h. h }

module _ {H S K : Type 0} (o : Outside H S K) (job : Job) (a b : Desk H S K) (s : Status) where
  abbrev Decided : Task → Status → List ℕ → Type 0
  Decided task = IsDecided task job (known o a).input (known o b).input

  abbrev Session : Task → Type 0
  Session task = HoldsSession task job (known o a) s (known o b)

  abbrev Reported : Task → Type 0
  Reported task = Reports (Decided task) (known o a).writes (known o b).writes (known o a).holds (known o b).holds s

  -- a run reports what was decided, or holds a session
  pub reported : (task : Task) → RunsTask o task job a s b → Reported task ⊎ Session task
  reported (ask question word) r = inl r.written
  reported (trial number) r = inl r.written
  reported (calc expression) r = inl r.written
  reported gtp r = inr r.played
  reported (play word) r = elim r.outcome [ inl u ↦ inl u.0 | inr p ↦ inr p ]

  caused : (task : Task) → Reported task ⊎ Session task → HasReason task job (known o a) s (known o b)
  caused task (inr session) = inr (inr (inr session))
  caused task (inl r) = elim (reason (Decided task) _ _ _ _ s r) [
    | inl m ↦ inl m
    | inr (inl f) ↦ inr (inl f)
    | inr (inr d) ↦ inr (inr (inl d))
  ]

  session_counted : (task : Task) → Session task → s ≡ CannotWrite → Rose (known o a).writes (known o b).writes
  session_counted (ask question word) h e = absurd h
  session_counted (trial number) h e = absurd h
  session_counted (calc expression) h e = absurd h
  session_counted (play word) (engine, state, game, run) e = run.write e
  session_counted gtp h e = h.write e

  write_counted : (task : Task) → Reported task ⊎ Session task → s ≡ CannotWrite → Rose (known o a).writes (known o b).writes
  write_counted task (inl r) e = counted (Decided task) _ _ _ _ s (decided_proper task job _ _) r e
  write_counted task (inr session) e = session_counted task session e

  written_part : (task : Task) → Reported task ⊎ Session task → IsPart (Decided task) (known o a) s (known o b) ⊎ Session task
  written_part task (inl r) = inl (part (Decided task) (decided_proper task job _ _) (known o a) (known o b) s r)
  written_part task (inr session) = inr session

pub has_causes : {H S K : Type 0} (o : Outside H S K) → HasCauses o
has_causes o job a b s r = caused o job a b s job.task (reported o job a b s job.task r)

pub counts_writes : {H S K : Type 0} (o : Outside H S K) → CountsWrites o
counts_writes o words a b s (inl (none, refused)) e = elim refused.written [
  | inl f ↦ absurd (let k : Path Status CannotWrite status.Usage = sym e ∙ f.0 in cc)
  | inr f ↦ f.1
]
counts_writes o words a b s (inr (job, only, r)) e = write_counted o job a b s job.task (reported o job a b s job.task r) e

pub writes_part : {H S K : Type 0} (o : Outside H S K) → WritesPart o
writes_part o job a b s r apart = written_part o job a b s job.task (reported o job a b s job.task r)

pub refuses_no_job : {H S K : Type 0} (o : Outside H S K) → RefusesNoJob o
refuses_no_job o words a b s (inl (none, refused)) empty = elim refused.written [ inl f ↦ inl f.0 | inr f ↦ inr f.0 ]
refuses_no_job o words a b s (inr (job, only, r)) empty = absurd (empty job only.said)
