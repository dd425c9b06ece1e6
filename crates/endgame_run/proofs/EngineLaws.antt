-- How a session of the engine and the line of a fault behind it make the run of the engine.
use Rattle.std.proofs.Common.{append_assoc, length, length-append, ◌≡◌, ◌≢◌, ◌≤◌, ◌++◌, ℕ, inl, inr, refl, rules, sym, ap, subst, ◌∙◌, arith, List, [], Some, None}
use Rattle.std.specs.Prelude.{Option, take, codes}
use Rattle.std.specs.Io.KnownBytes.{append_known}
use Rattle.std.proofs.lemmas.List.{append-nil}
use Rattle.desk_io.specs.Desk.{Input, Known}
use Rattle.desk_io.specs.Files.{Files}
use Rattle.desk_io.specs.declared.lines.TheConstants.{MOST_LINES}
use Rattle.desk_io.specs.Lines.{UsesLines}
use Rattle.desk_io.specs.Outside.{Rose}
use Rattle.gtp_words.specs.declared.end.GtpEnd.{GtpEnd}
use Rattle.gtp_words.specs.declared.end.GtpEnd.TheVariants as end
use Rattle.gtp_words.specs.Asking.{Asking, AsksInSession}
use Rattle.gtp_words.specs.Loads.{AreLoads, Loads, RoseBy}
use Rattle.gtp_words.specs.Sessions.{WritesByEnd, beginning}
use Rattle.gtp_words.specs.Steps.{StepsByEnd, StepsOfLines, counted}
use Rattle.endgame_questions.specs.declared.status.Status.{Status}
use Rattle.endgame_questions.specs.declared.status.Status.TheVariants.{CannotRead, CannotWrite, Done, Memory, TooManyLines}
use Rattle.endgame_questions.specs.declared.status.Status.TheVariants as status
use Rattle.endgame_run.specs.Engine.{AreFailedLoads, AreSessionSteps, AsksForLines, IsEnginePlay, IsEngineStatus, IsEngineStopped, IsEngineWritten, SessionRules}
use Rattle.endgame_questions.specs.File.{TakesAtMost, most_of_engine}
use Rattle.endgame_questions.specs.Written.{Finishes}
use Rattle.endgame_run.specs.inner.Top.{IsClosed}
use Rattle.endgame_run.proofs.SessionLaws.{behind, rose_later, told_written}

-- nothing is written for an empty text
nothing_behind : (before : Option (List ℕ)) → before ≡ append_known before []
nothing_behind None = refl
nothing_behind (Some b) = ap Some (sym (append-nil b))

no_loads : (count : ℕ) → AreFailedLoads count count []
no_loads count = record { ascending = search rules; counted = omega arith }

-- no memory for an engine
pub engine_refused : (r : SessionRules) (a b : Known) → b.input.loads ≡ a.input.loads → b.input.left ≡ a.input.left → b.holds ≡ a.holds → IsEnginePlay r a Memory b
engine_refused r a b loads unread same = record {
  failing = [];
  failed = subst (λ n. AreFailedLoads a.input.loads n []) (sym loads) (no_loads a.input.loads);
  ends = tt;
  read = λ e. absurd cc;
  write = λ e. absurd cc;
  written = told_written _ a.input.left (λ bytes is. (
    [],
    (
      beginning r.start bytes,
      (r.start, record { held = []; rest = bytes; same = refl; unread = refl; few = omega arith; source = unread ∙ is }),
      (0, (refl, refl), omega arith),
    ),
    same ∙ nothing_behind a.holds,
  ));
}

stopped_whole : (r : SessionRules) (files : Option Files) (failing bytes : List ℕ) (left before now : Option (List ℕ)) (fault : Status) (text line : List ℕ) → IsEngineStopped r files failing bytes left fault text line
    → now ≡ append_known before (text ++ line) → IsEngineWritten r files failing bytes left before now fault
stopped_whole r files failing bytes left before now CannotRead text line h e = (text, line, h, e)
stopped_whole r files failing bytes left before now TooManyLines text line h e = (text, line, h, e)
stopped_whole r files failing bytes left before now Done text line h e = absurd h
stopped_whole r files failing bytes left before now CannotWrite text line h e = absurd h
stopped_whole r files failing bytes left before now Memory text line h e = absurd h
stopped_whole r files failing bytes left before now status.Usage text line h e = absurd h
stopped_whole r files failing bytes left before now status.Cycle text line h e = absurd h
stopped_whole r files failing bytes left before now status.RegionLimit text line h e = absurd h
stopped_whole r files failing bytes left before now status.FormLimit text line h e = absurd h
stopped_whole r files failing bytes left before now status.TooLong text line h e = absurd h
stopped_whole r files failing bytes left before now (status.BadFile f) text line h e = absurd h
stopped_whole r files failing bytes left before now (status.BadExpression f) text line h e = absurd h
stopped_whole r files failing bytes left before now status.CalcLimit text line h e = absurd h
stopped_whole r files failing bytes left before now status.CaptureLimit text line h e = absurd h

module _ (r : SessionRules) (a b : Known) (failing : List ℕ) (failed : AreFailedLoads a.input.loads b.input.loads failing) (middle : ℕ) (mid : Option (List ℕ)) (status : Status) where
  -- a status that stands behind a session without a line of its own
  pub ended : (own : Status) → IsEngineStatus own → own ≢ CannotRead → (own ≡ CannotWrite → Rose a.writes b.writes) → status ≡ own → b.holds ≡ mid
      → ((bytes : List ℕ) → a.input.left ≡ Some bytes → IsEngineWritten r a.input.files failing bytes b.input.left a.holds mid own) → IsEnginePlay r a status b
  ended own ends unread unwritten is same p = record {
    failing = failing;
    failed = failed;
    ends = subst IsEngineStatus (sym is) ends;
    read = λ e. absurd (unread (sym is ∙ e));
    write = λ e. unwritten (sym is ∙ e);
    written = told_written _ a.input.left (λ bytes told. subst (λ z. IsEngineWritten r a.input.files failing bytes b.input.left a.holds b.holds z) (sym is)
        (subst (λ x. IsEngineWritten r a.input.files failing bytes b.input.left a.holds x own) (sym same) (p bytes told)));
  }

  -- the line of a fault was written behind the replies, or a front part of it
  pub stopped : (fault : Status) (line : List ℕ) → IsEngineStatus fault → fault ≢ CannotWrite → (fault ≡ CannotRead → Rose a.input.reads b.input.reads) → a.writes ≤ middle
      → ((bytes : List ℕ) → a.input.left ≡ Some bytes → (text : List ℕ) × IsEngineStopped r a.input.files failing bytes b.input.left fault text line × (mid ≡ append_known a.holds text))
      → Finishes fault line middle b.writes mid b.holds status → IsEnginePlay r a status b
  stopped fault line ends apart rose later p (inl w) = record {
    failing = failing;
    failed = failed;
    ends = subst IsEngineStatus (sym w.0) ends;
    read = λ e. rose (sym w.0 ∙ e);
    write = λ e. absurd (apart (sym w.0 ∙ e));
    written = told_written _ a.input.left (λ bytes told. let h = p bytes told in subst (λ z. IsEngineWritten r a.input.files failing bytes b.input.left a.holds b.holds z) (sym w.0)
        (stopped_whole r a.input.files failing bytes b.input.left a.holds b.holds fault h.0 line h.1 (w.1 ∙ ap (λ m. append_known m line) h.2 ∙ behind a.holds h.0 line)));
  }
  stopped fault line ends apart rose later p (inr w) = record {
    failing = failing;
    failed = failed;
    ends = subst IsEngineStatus (sym w.0) tt;
    read = λ e. absurd (let k : Path Status CannotWrite CannotRead = sym w.0 ∙ e in cc);
    write = λ e. rose_later a.writes middle b.writes later w.1;
    written = told_written _ a.input.left (λ bytes told. let h = p bytes told in subst (λ z. IsEngineWritten r a.input.files failing bytes b.input.left a.holds b.holds z) (sym w.0)
        (inr (fault, h.0, line, w.2.0, h.1, w.2.1 ∙ ap (λ m. append_known m (take w.2.0 line)) h.2 ∙ behind a.holds h.0 (take w.2.0 line))));
  }

  -- the run of an engine, by the end of its session, behind which the source has as much left
  pub engine_play : (state : r.State) (final : GtpEnd)
      → ((bytes : List ℕ) → a.input.left ≡ Some bytes → WritesByEnd r.State (r.Reply a.input.files) failing r.start bytes a.holds mid state b.input.left final)
      → (final ≡ end.ReadFault → Rose a.input.reads b.input.reads)
      → (final ≡ end.WriteFault → Rose a.writes middle) → a.writes ≤ middle → middle ≤ b.writes → IsClosed final middle b.writes mid b.holds status → IsEnginePlay r a status b
  engine_play state end.Quit p rose writes later up c = ended Done tt (λ e. absurd cc) (λ e. absurd cc) c.0 c.1 (λ bytes told. let h = p bytes told in (end.Quit, h.1, tt, (h.0, (state, h.2), h.3), h.4))
  engine_play state end.InputEnded p rose writes later up c = ended Done tt (λ e. absurd cc) (λ e. absurd cc) c.0 c.1 (λ bytes told. let h = p bytes told in (end.InputEnded, h.1, tt, (h.0, (state, h.2), h.3), h.4))
  engine_play state end.WriteFault p rose writes later up c =
      ended CannotWrite tt (λ e. absurd cc) (λ e. let r = writes refl in omega (arith, r, up)) c.0 c.1 (λ bytes told. let h = p bytes told in inl (h.1, (h.0, (state, h.2), h.3), h.4))
  engine_play state end.Memory p rose writes later up c = ended Memory tt (λ e. absurd cc) (λ e. absurd cc) c.0 c.1 (λ bytes told. let h = p bytes told in (h.1, (h.0, (state, h.2), h.3), h.4))
  engine_play state end.ReadFault p rose writes later up c =
      stopped CannotRead (codes "fault cannot read\n") tt (λ e. absurd cc) (λ e. rose refl) later (λ bytes told. let h = p bytes told in (h.1, ((h.0, (state, h.2), h.3), refl), h.4)) c
  engine_play state end.TooManyLines p rose writes later up c =
      stopped TooManyLines (codes "fault lines\n") tt (λ e. absurd cc) (λ e. absurd cc) later (λ bytes told. let h = p bytes told in (h.1, ((h.0, (state, h.2), h.3), refl), h.4)) c

-- the same, by the loads of the session
pub engine_ran : (r : SessionRules) (a b : Known) (loads : Loads) (middle : ℕ) (mid : Option (List ℕ)) (status : Status) (state : r.State) (final : GtpEnd) → AreLoads loads
    → RoseBy (length loads.failures) a.input.loads b.input.loads
    → ((bytes : List ℕ) → a.input.left ≡ Some bytes → WritesByEnd r.State (r.Reply a.input.files) loads.failures r.start bytes a.holds mid state b.input.left final)
    → (final ≡ end.ReadFault → Rose a.input.reads b.input.reads) → (final ≡ end.WriteFault → Rose a.writes middle) → a.writes ≤ middle → middle ≤ b.writes
    → IsClosed final middle b.writes mid b.holds status → IsEnginePlay r a status b
engine_ran r a b loads middle mid status state final numbered counted p rose writes later up c =
    engine_play r a b loads.failures (record { ascending = numbered.ascending; counted = counted }) middle mid status state final p rose writes later up c

-- the steps of a session, by those of the engine's own
pub session_steps : (r : SessionRules) (i j : Input) (loads : Loads) (state : r.State) (final : GtpEnd) (holds held : Option (List ℕ)) (before now : ℕ) → AreLoads loads
    → RoseBy (length loads.failures) i.loads j.loads → StepsOfLines r.Steps (r.Reply i.files) MOST_LINES (counted r.start before) (counted state now)
    → ((bytes : List ℕ) → i.left ≡ Some bytes → StepsByEnd r.State r.Steps (r.Reply i.files) loads.failures (counted r.start before) bytes holds held (counted state now) j.left final)
    → AreSessionSteps r i j before now
session_steps r i j loads state final holds held before now numbered rose lines steps = record {
  lines = (state, lines);
  told = told_written _ i.left (λ bytes is. (loads.failures, record { ascending = numbered.ascending; counted = rose }, (state, final, holds, held, steps bytes is)));
}

-- no session was begun
pub no_session_steps : (r : SessionRules) (i : Input) (steps : ℕ) → AreSessionSteps r i i steps steps
no_session_steps r i steps = record {
  lines = (r.start, (0, omega arith, counted r.start steps, refl, refl, inl refl));
  told = told_written _ i.left (λ bytes is. (
    [],
    no_loads i.loads,
    (
      r.start,
      end.Memory,
      None,
      None,
      (
        beginning (counted r.start steps) bytes,
        [],
        record { held = []; rest = bytes; same = refl; unread = refl; few = omega arith; source = is },
        (0, (refl, refl), omega arith),
        refl,
        inl refl,
      ),
    ),
  ));
}

-- what a session took of its source
pub session_taken : (before now : Option (List ℕ)) → (held : List ℕ) × (length held ≤ 1024) × UsesLines 1024 0 10000 [] before held now → TakesAtMost most_of_engine before now
session_taken before now (held, few, used) = λ bytes e.
    let u = used bytes e in
    (u.0 ++ held, u.1, u.2, u.3 ∙ sym (append_assoc u.0 held u.1), omega (arith, u.4, few, length-append u.0 held))

-- what a session asked for, and the line of a fault behind it
module _ {H : Type 0} (asks : Asking H) (r : SessionRules) (s : H) (before : Option (List ℕ)) where
  pub asked_nothing : AsksForLines asks r s before Memory s before
  asked_nothing = λ bytes told. (end.Memory, (bytes, ([], bytes, omega arith, told, refl), (0, s, (refl, refl), inl refl)), λ is. refl)

  pub asked_behind : (t : H) (left : Option (List ℕ)) (final : GtpEnd) (counted count : ℕ) (held holds : Option (List ℕ)) (status : Status)
      → ((bytes : List ℕ) → before ≡ Some bytes → AsksInSession asks r.Names bytes s left t final) → IsClosed final counted count held holds status → AsksForLines asks r s before status t left
  asked_behind t left final counted count held holds status asked closed = λ bytes told.
      (final, asked bytes told, λ is. (subst (λ f. IsClosed f counted count held holds status) is closed).0)
