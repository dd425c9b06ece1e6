use Rattle.std.proofs.Common.{◌+◌, ◌-◌, ◌++◌, [], length, refl, sym, ap, ◌∙◌, subst, arith, le_refl, le_trans, Some, None}
use Rattle.desk_io.specs.declared.lines.TheConstants.{MOST_LINES}
use Rattle.desk_io.proofs.UsedLineLemmas.{used_at, used_most, used_none, used_then}
use Rattle.gtp_words.specs.declared.end.GtpEnd.TheVariants.{TooManyLines}
use Rattle.gtp_words.specs.Loads.{AreLoads, RoseBy}
use Rattle.gtp_words.specs.Steps.{Counted, WithSteps, counted}
use Rattle.gtp_words.specs.inner.Taking.{LineCounted, loaded_at}
use Rattle.gtp_words.proofs.AskingLemmas.{AskedBehind, asked_end, asked_line, asked_over, asked_start}
use Rattle.gtp_words.proofs.SessionLemmas.{Going, going_line, going_over, going_start}
use Rattle.gtp_words.proofs.FailedLoadLemmas.{noted_are, noted_loads, noted_rose, unloaded_are}
use Rattle.gtp_words.proofs.StepLemmas.{Stepped, counted_end, counted_line, counted_over, plain_end, stepped_end}
use Rattle.gtp_words.proofs.sessions.run_session.Goals as goal

pub session-init : goal.session-init
session-init g c =
    let State = g.A.AnswersLines.State in let start = g.A.AnswersLines.loaded c.args.engine.now in let none = c.requires.unloaded in let files = g.H.Shelf.files c.args.shelf.now in
    let left = g.S.Source.left c.args.lines.now in let holds = g.K.Sink.holds c.args.out.now in let faults = g.H.Shelf.faults c.args.shelf.now in
    let Reply = g.A.AnswersLines.replies (g.A.AnswersLines.rules c.args.engine.now) files in (
      let WithCount = WithSteps (g.A.AnswersLines.line_steps (g.A.AnswersLines.rules c.args.engine.now)) Reply in let first = counted start.state c.args.steps.now in
          subst (λ v. Going (Counted State) WithCount first left holds v 0 c.new-reader.result left holds) (ap (λ l. record { state = first; loads = l }) (sym none))
          (going_start (Counted State) WithCount first left holds c.new-reader.result c.new-reader.ensures),
      refl,
      subst AreLoads (sym none) unloaded_are,
      omega (arith, ap (λ l. l.count) none),
      subst (λ l. RoseBy (length l.failures) faults faults) (sym none) (omega arith),
      refl,
      le_refl _,
      le_refl _,
      le_refl _,
      used_none 1024 0 0 [] c.new-reader.result left left (omega arith) (λ bytes e. (bytes, e, ap (λ l. l ++ bytes) (sym c.new-reader.ensures))),
      omega (arith, ap length c.new-reader.ensures),
      omega arith,
      c.requires.room,
      asked_start g.H.Shelf.asks g.A.AnswersLines.names left c.args.shelf.now c.new-reader.result c.new-reader.ensures,
      (0, omega arith, refl),
    )

pub session-preserved : goal.session-preserved
session-preserved g c =
    let State = g.A.AnswersLines.State in let loaded = g.A.AnswersLines.loaded in let rules = g.A.AnswersLines.rules in let replies = g.A.AnswersLines.replies in
    let start = c.args.engine.now in let at = c.session in let inv = at.invariant in let files = g.H.Shelf.files c.args.shelf.now in let Reply = replies (rules start) files in
    let left₀ = g.S.Source.left c.args.lines.now in let holds₀ = g.K.Sink.holds c.args.out.now in let left = g.S.Source.left at.lines in let holds = g.K.Sink.holds at.out in
    let before = g.H.Shelf.faults at.shelf in let now = g.H.Shelf.faults c.take_line.new.shelf in let old = loaded at.engine in let new = loaded c.take_line.new.engine in
    let held = c.take_line.new.reader in let left' = g.S.Source.left c.take_line.new.lines in let holds' = g.K.Sink.holds c.take_line.new.out in
    let noted = c.take_line.ensures.noted in (
      let line_steps = g.A.AnswersLines.line_steps in let s = at.steps in let t = c.take_line.new.steps in
          going_line (Counted State) (WithSteps (line_steps (rules start)) Reply) (counted (loaded start).state c.args.steps.now) left₀ holds₀ (loaded_at old s) at._read at.reader left holds inv.0 before now
          (loaded_at new t) held left' holds' c.session-test.true inv.2.below
          (subst (λ l. Stepped State (line_steps l) (replies l files) before now old s at.reader left holds holds' None new t held left') inv.1
          (subst (λ f. Stepped State (line_steps (rules at.engine)) (replies (rules at.engine) f) before now old s at.reader left holds holds' None new t held left') inv.5
          (subst (λ r. Stepped State (line_steps (rules at.engine)) (replies (rules at.engine) (g.H.Shelf.files at.shelf)) before now old s at.reader left holds holds' r new t held left')
          c.in_default.is c.take_line.ensures.taken))),
      c.take_line.ensures.rules ∙ inv.1,
      noted_are before now old.loads new.loads noted.0 noted.1 inv.2,
      noted_loads before now old.loads new.loads noted.0 at._read noted.1 inv.3,
      noted_rose before now old.loads new.loads noted.0 (g.H.Shelf.faults c.args.shelf.now) noted.1 c.take_line.ensures.later_loads inv.4,
      c.take_line.ensures.same_files ∙ inv.5,
      le_trans inv.6 c.take_line.ensures.later_loads,
      le_trans inv.7 c.take_line.ensures.later_reads,
      le_trans inv.8 c.take_line.ensures.later_writes,
      used_then 1024 0 at._read (at._read + 1) [] at.reader held left₀ left left' inv.9 (used_at 1024 at._read (at._read + 1) at.reader held left left' (omega arith) c.take_line.ensures.used),
      c.take_line.ensures.few_held,
      omega (arith, c.session-test.true),
      c.take_line.ensures.room c.in_default.is (MOST_LINES - (at._read + 1)) (subst (λ n. g.A.AnswersLines.has_room n old.state) (omega (arith, c.session-test.true)) inv.12),
      asked_line g.H.Shelf.asks g.A.AnswersLines.names left₀ c.args.shelf.now at.reader left at.shelf inv.13 held left' c.take_line.new.shelf
          (subst (λ r. AskedBehind g.H.Shelf.asks g.A.AnswersLines.names at.reader left at.shelf held left' c.take_line.new.shelf r) c.in_default.is c.take_line.ensures.asked),
      let line_steps = g.A.AnswersLines.line_steps in let b = counted old.state at.steps in let u = counted new.state c.take_line.new.steps in
          counted_line State (line_steps (rules start)) Reply (counted (loaded start).state c.args.steps.now) at._read b inv.14 u
          (subst (λ l. LineCounted State (line_steps l) (replies l files) b None u) inv.1
          (subst (λ f. LineCounted State (line_steps (rules at.engine)) (replies (rules at.engine) f) b None u) inv.5
          (subst (λ r. LineCounted State (line_steps (rules at.engine)) (replies (rules at.engine) (g.H.Shelf.files at.shelf)) b r u) c.in_default.is c.take_line.ensures.counted))),
    )

pub returns-in-Some-clause-asked : goal.returns-in-Some-clause-asked
returns-in-Some-clause-asked g c =
    let at = c.session in
    asked_end g.H.Shelf.asks g.A.AnswersLines.names (g.S.Source.left c.args.lines.now) c.args.shelf.now at.reader (g.S.Source.left at.lines) at.shelf at.invariant.13 c.take_line.new.reader
    (g.S.Source.left c.take_line.new.lines) c.take_line.new.shelf c.in-Some.end c.take_line.ensures.few_held c.in-Some.ensures.asked

pub returns-in-Some-clause-loads : goal.returns-in-Some-clause-loads
returns-in-Some-clause-loads g c =
    let at = c.session in let noted = c.take_line.ensures.noted in
    noted_are (g.H.Shelf.faults at.shelf) (g.H.Shelf.faults c.take_line.new.shelf) (g.A.AnswersLines.loaded at.engine).loads (g.A.AnswersLines.loaded c.take_line.new.engine).loads noted.0 noted.1 at.invariant.2

pub returns-in-Some-clause-counted : goal.returns-in-Some-clause-counted
returns-in-Some-clause-counted g c =
    let at = c.session in let noted = c.take_line.ensures.noted in
    noted_rose (g.H.Shelf.faults at.shelf) (g.H.Shelf.faults c.take_line.new.shelf) (g.A.AnswersLines.loaded at.engine).loads
    (g.A.AnswersLines.loaded c.take_line.new.engine).loads noted.0 (g.H.Shelf.faults c.args.shelf.now) noted.1 c.take_line.ensures.later_loads at.invariant.4

pub returns-in-Some-clause-used : goal.returns-in-Some-clause-used
returns-in-Some-clause-used g c =
    let at = c.session in let held = c.take_line.new.reader in
    let left₀ = g.S.Source.left c.args.lines.now in let left = g.S.Source.left at.lines in let left' = g.S.Source.left c.take_line.new.lines in (
      held,
      c.take_line.ensures.few_held,
      used_most 1024 (at._read + 1) MOST_LINES [] held left₀ left' (omega (arith, c.session-test.true))
          (used_then 1024 0 at._read (at._read + 1) [] at.reader held left₀ left left' at.invariant.9 (used_at 1024 at._read (at._read + 1) at.reader held left left' (omega arith) c.take_line.ensures.used)),
    )

pub returns-clause-asked : goal.returns-clause-asked
returns-clause-asked g c =
    let at = c.session in
    asked_over g.H.Shelf.asks g.A.AnswersLines.names (g.S.Source.left c.args.lines.now) c.args.shelf.now at.reader (g.S.Source.left at.lines) at.shelf at.invariant.13 at.invariant.10

pub take_line-requires-clause-room : goal.take_line-requires-clause-room
take_line-requires-clause-room g c =
    (MOST_LINES - (c.session._read + 1), subst (λ n. g.A.AnswersLines.has_room n (g.A.AnswersLines.loaded c.session.engine).state) (omega (arith, c.session-test.true)) c.session.invariant.12)

pub returns-in-Some-clause-steps : goal.returns-in-Some-clause-steps
returns-in-Some-clause-steps g c =
    let State = g.A.AnswersLines.State in let loaded = g.A.AnswersLines.loaded in let rules = g.A.AnswersLines.rules in let replies = g.A.AnswersLines.replies in let line_steps = g.A.AnswersLines.line_steps in
    let start = c.args.engine.now in let at = c.session in let inv = at.invariant in let files = g.H.Shelf.files c.args.shelf.now in
    let left₀ = g.S.Source.left c.args.lines.now in let holds₀ = g.K.Sink.holds c.args.out.now in let left = g.S.Source.left at.lines in let holds = g.K.Sink.holds at.out in
    let before = g.H.Shelf.faults at.shelf in let now = g.H.Shelf.faults c.take_line.new.shelf in let old = loaded at.engine in let new = loaded c.take_line.new.engine in let s = at.steps in let t = c.take_line.new.steps in
    let held = c.take_line.new.reader in let left' = g.S.Source.left c.take_line.new.lines in let holds' = g.K.Sink.holds c.take_line.new.out in let end = Some c.in-Some.end in
    stepped_end State (line_steps (rules start)) (replies (rules start) files) (loaded start).state c.args.steps.now left₀ holds₀ old s at._read at.reader left holds inv.0 before now new t held left' holds'
    c.session-test.true inv.2.below c.take_line.ensures.few_held c.in-Some.end
    (subst (λ l. Stepped State (line_steps l) (replies l files) before now old s at.reader left holds holds' end new t held left') inv.1
    (subst (λ f. Stepped State (line_steps (rules at.engine)) (replies (rules at.engine) f) before now old s at.reader left holds holds' end new t held left') inv.5 c.in-Some.ensures.taken))

pub returns-clause-steps : goal.returns-clause-steps
returns-clause-steps g c =
    let start = c.args.engine.now in let at = c.session in let inv = at.invariant in let rules = g.A.AnswersLines.rules start in let State = g.A.AnswersLines.State in
    let left₀ = g.S.Source.left c.args.lines.now in let holds₀ = g.K.Sink.holds c.args.out.now in let left = g.S.Source.left at.lines in let holds = g.K.Sink.holds at.out in
    going_over (Counted State) (WithSteps (g.A.AnswersLines.line_steps rules) (g.A.AnswersLines.replies rules (g.H.Shelf.files c.args.shelf.now))) (counted (g.A.AnswersLines.loaded start).state c.args.steps.now)
    left₀ holds₀ (loaded_at (g.A.AnswersLines.loaded at.engine) at.steps) at._read at.reader left holds inv.0 (omega (arith, c.session-test.false, inv.11)) inv.10

pub returns-in-Some-clause-lines : goal.returns-in-Some-clause-lines
returns-in-Some-clause-lines g c =
    let State = g.A.AnswersLines.State in let loaded = g.A.AnswersLines.loaded in let rules = g.A.AnswersLines.rules in let replies = g.A.AnswersLines.replies in let line_steps = g.A.AnswersLines.line_steps in
    let start = c.args.engine.now in let at = c.session in let inv = at.invariant in let files = g.H.Shelf.files c.args.shelf.now in let end = Some c.in-Some.end in
    let b = counted (loaded at.engine).state at.steps in let u = counted (loaded c.take_line.new.engine).state c.take_line.new.steps in
    counted_end State (line_steps (rules start)) (replies (rules start) files) (counted (loaded start).state c.args.steps.now) at._read b inv.14 u c.session-test.true c.in-Some.end
    (subst (λ l. LineCounted State (line_steps l) (replies l files) b end u) inv.1
    (subst (λ f. LineCounted State (line_steps (rules at.engine)) (replies (rules at.engine) f) b end u) inv.5 c.in-Some.ensures.counted))

pub returns-clause-lines : goal.returns-clause-lines
returns-clause-lines g c =
    let start = c.args.engine.now in let at = c.session in let inv = at.invariant in let rules = g.A.AnswersLines.rules start in
    counted_over g.A.AnswersLines.State (g.A.AnswersLines.line_steps rules) (g.A.AnswersLines.replies rules (g.H.Shelf.files c.args.shelf.now))
    (counted (g.A.AnswersLines.loaded start).state c.args.steps.now) at._read (counted (g.A.AnswersLines.loaded at.engine).state at.steps) inv.14 inv.11

pub returns-in-Some-clause-text : goal.returns-in-Some-clause-text
returns-in-Some-clause-text g c bytes e =
    let start = c.args.engine.now in let rules = g.A.AnswersLines.rules start in let at = c.take_line.new in
    plain_end g.A.AnswersLines.State (g.A.AnswersLines.line_steps rules) (g.A.AnswersLines.replies rules (g.H.Shelf.files c.args.shelf.now)) (g.A.AnswersLines.loaded at.engine).loads.failures
    (counted (g.A.AnswersLines.loaded start).state c.args.steps.now) bytes (g.K.Sink.holds c.args.out.now) (g.K.Sink.holds at.out) (counted (g.A.AnswersLines.loaded at.engine).state at.steps)
    (g.S.Source.left at.lines) c.in-Some.end (returns-in-Some-clause-steps g c bytes e)

pub returns-clause-text : goal.returns-clause-text
returns-clause-text g c bytes e =
    let start = c.args.engine.now in let rules = g.A.AnswersLines.rules start in let at = c.session in
    plain_end g.A.AnswersLines.State (g.A.AnswersLines.line_steps rules) (g.A.AnswersLines.replies rules (g.H.Shelf.files c.args.shelf.now)) (g.A.AnswersLines.loaded at.engine).loads.failures
    (counted (g.A.AnswersLines.loaded start).state c.args.steps.now) bytes (g.K.Sink.holds c.args.out.now) (g.K.Sink.holds at.out) (counted (g.A.AnswersLines.loaded at.engine).state at.steps)
    (g.S.Source.left at.lines) TooManyLines (returns-clause-steps g c bytes e)
