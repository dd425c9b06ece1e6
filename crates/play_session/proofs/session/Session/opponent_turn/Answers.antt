use Rattle.std.proofs.Common.{◌+◌, ◌++◌, [], sym, ap, ◌∙◌, subst, arith, append-nil, refl, Ok, Err, None}
use Rattle.play_session.specs.declared.fault.Fault.TheVariants.{Read}
use Rattle.play_session.specs.declared.session.Request.TheVariants.{Ended, Line}
use Rattle.desk_io.specs.Lines.{IsSameInput}
use Rattle.play_session.specs.Session.{IsToAnswer}
use Rattle.play_session.specs.Written.{Session, standing}
use Rattle.play_session.specs.inner.Written.{TurnWritten, IsRequested, MovesOrStays}
use Rattle.desk_io.specs.Lines.{UsesLines}
use Rattle.play_session.proofs.TurnLaws.{append_none, turn_unread, answer_written, answer_failed, input_ended}
use Rattle.play_session.proofs.WinLaws.{answers_step}
use Rattle.desk_io.proofs.HeldLemmas.{input_same}
use Rattle.desk_io.proofs.UsedLineLemmas.{used_none}
use Rattle.play_session.proofs.session.Session.opponent_turn.Goals as goal

pub returns-then-read-eq-MOST_LINES-clause-used : goal.returns-then-read-eq-MOST_LINES-clause-used
returns-then-read-eq-MOST_LINES-clause-used g c =
    let held = c.args.self.now.held in let left = g.S.Source.left c.args.lines.now in
    used_none 256 c.args.read.now c.args.read.now held held left left (omega arith) (input_same held left)

pub returns-in-Ok-Ended-clause-used : goal.returns-in-Ok-Ended-clause-used
returns-in-Ok-Ended-clause-used g c = λ bytes e.
    let i = c.self.inside in let input = c.take_request.new.input in let left = g.S.Source.left c.take_request.new.lines in
    let asked : IsRequested c.board.result.now (i.input ++ bytes) Ended input left =
    subst (λ r. IsRequested c.board.result.now (i.input ++ bytes) r input left) c.in-Ok-Ended.field-0-is (c.in-Ok-Ended.ensures.requested bytes e) in
    ([], [], asked.2, ap (λ v. v.held ++ bytes) (sym c.self.view_is) ∙ asked.0 ∙ sym (append-nil input ∙ asked.1), omega arith)

pub returns-in-Err-clause-written : goal.returns-in-Err-clause-written
returns-in-Err-clause-written g c = λ bytes e.
    let i = c.self.inside in let before = g.K.Sink.holds c.args.out.now in
    let left = g.S.Source.left c.take_request.new.lines in let input = c.take_request.new.input in
    let session : Session = record { game = i.player; engine = i.engine; held = i.input } in
    let new : Session = record { game = i.player; engine = i.engine; held = input } in
    let turn : IsToAnswer session.engine session.game.state = subst (λ v. IsToAnswer v.engine v.game.state) (sym c.self.view_is) c.requires.turn in
    subst (λ v. TurnWritten v.engine (standing v c.args.read.now bytes) before before (Err Read) new c.args.read.now left) c.self.view_is
    (turn_unread session c.args.read.now bytes left before before input turn c.requires.few c.if-read-eq-MOST_LINES.false (subst (λ l. IsSameInput i.input l input left) e c.in-Err.ensures.same))

pub returns-in-Ok-Ended-clause-written : goal.returns-in-Ok-Ended-clause-written
returns-in-Ok-Ended-clause-written g c = λ bytes e.
    let i = c.self.inside in let before = g.K.Sink.holds c.args.out.now in let now = g.K.Sink.holds c.end_input.new.out in
    let left = g.S.Source.left c.take_request.new.lines in let input = c.take_request.new.input in
    let session : Session = record { game = i.player; engine = i.engine; held = i.input } in
    let new : Session = record { game = i.player; engine = i.engine; held = input } in
    let board = c.board.ensures ∙ ap (λ x. x.board) c.whole.ensures in
    let asked : IsRequested session.game.state.board (session.held ++ bytes) Ended input left =
    subst (λ r. IsRequested session.game.state.board (session.held ++ bytes) r input left) c.in-Ok-Ended.field-0-is (subst (λ b. IsRequested b (session.held ++ bytes) c.in-Ok-Ended.field-0 input left) board (c.in-Ok-Ended.ensures.requested bytes e)) in
    let turn : IsToAnswer session.engine session.game.state = subst (λ v. IsToAnswer v.engine v.game.state) (sym c.self.view_is) c.requires.turn in
    subst (λ v. TurnWritten v.engine (standing v c.args.read.now bytes) before now c.end_input.result new c.args.read.now left) c.self.view_is
    (input_ended session c.args.read.now bytes left before now input c.end_input.result turn c.requires.few c.if-read-eq-MOST_LINES.false asked c.end_input.ensures.bytes c.end_input.ensures.cause.not_read c.end_input.ensures.end)

pub returns-in-Err-answer-clause-written : goal.returns-in-Err-answer-clause-written
returns-in-Err-answer-clause-written g c = λ bytes e.
    let i = c.self.inside in let before = g.K.Sink.holds c.args.out.now in let now = g.K.Sink.holds c.answer.new.out in
    let left = g.S.Source.left c.take_request.new.lines in let input = c.take_request.new.input in
    let session : Session = record { game = i.player; engine = i.engine; held = i.input } in
    let new : Session = record { game = c.answer.new.player; engine = i.engine; held = input } in
    let board = c.board.ensures ∙ ap (λ x. x.board) c.whole.ensures in
    let request = Line c.in-Ok-Line.asked in
    let asked : IsRequested session.game.state.board (session.held ++ bytes) request input left =
    subst (λ r. IsRequested session.game.state.board (session.held ++ bytes) r input left) c.in-Ok-Line.field-0-is (subst (λ b. IsRequested b (session.held ++ bytes) c.in-Ok-Line.field-0 input left) board (c.in-Ok-Line.ensures.requested bytes e)) in
    let turn : IsToAnswer session.engine session.game.state = subst (λ v. IsToAnswer v.engine v.game.state) (sym c.self.view_is) c.requires.turn in
    let a = c.in-Err-answer.ensures.answered in
    subst (λ v. TurnWritten v.engine (standing v c.args.read.now bytes) before now (Err c.in-Err-answer.fault) new (c.args.read.now + 1) left) c.self.view_is
    (answer_failed session c.args.read.now bytes left before now c.in-Ok-Line.asked input c.answer.new.player a.0 c.in-Err-answer.fault new (c.args.read.now + 1) turn c.requires.few c.if-read-eq-MOST_LINES.false asked a.1 (λ k. c.in-Err-answer.ensures.cause.not_read (ap Err k)) a.2)

pub returns-in-Err-answer-clause-stepped : goal.returns-in-Err-answer-clause-stepped
returns-in-Err-answer-clause-stepped g c =
    subst (λ v. MovesOrStays v.game.state c.answer.new.player.state) c.self.view_is
    (answers_step c.self.inside.player c.answer.new.player c.in-Ok-Line.asked c.answer.ensures.answered.0 c.answer.ensures.answered.1)

pub returns-clause-written : goal.returns-clause-written
returns-clause-written g c = λ bytes e.
    let i = c.self.inside in let before = g.K.Sink.holds c.args.out.now in let now = g.K.Sink.holds c.answer.new.out in
    let left = g.S.Source.left c.take_request.new.lines in let input = c.take_request.new.input in
    let session : Session = record { game = i.player; engine = i.engine; held = i.input } in
    let new : Session = record { game = c.answer.new.player; engine = i.engine; held = input } in
    let board = c.board.ensures ∙ ap (λ x. x.board) c.whole.ensures in
    let request = Line c.in-Ok-Line.asked in
    let asked : IsRequested session.game.state.board (session.held ++ bytes) request input left =
    subst (λ r. IsRequested session.game.state.board (session.held ++ bytes) r input left) c.in-Ok-Line.field-0-is (subst (λ b. IsRequested b (session.held ++ bytes) c.in-Ok-Line.field-0 input left) board (c.in-Ok-Line.ensures.requested bytes e)) in
    let turn : IsToAnswer session.engine session.game.state = subst (λ v. IsToAnswer v.engine v.game.state) (sym c.self.view_is) c.requires.turn in
    let a = c.in-Ok.ensures.answered in
    subst (λ v. TurnWritten v.engine (standing v c.args.read.now bytes) before now (Ok None) new (c.args.read.now + 1) left) c.self.view_is
    (answer_written session c.args.read.now bytes left before now c.in-Ok-Line.asked input c.answer.new.player a.0 turn c.requires.few c.if-read-eq-MOST_LINES.false asked a.1 a.2)

pub returns-clause-stepped : goal.returns-clause-stepped
returns-clause-stepped g c =
    subst (λ v. MovesOrStays v.game.state c.answer.new.player.state) c.self.view_is
    (answers_step c.self.inside.player c.answer.new.player c.in-Ok-Line.asked c.answer.ensures.answered.0 c.answer.ensures.answered.1)

pub returns-then-read-eq-MOST_LINES-clause-cause : goal.returns-then-read-eq-MOST_LINES-clause-cause
returns-then-read-eq-MOST_LINES-clause-cause g c =
    record { reads_later = omega arith; writes_later = omega arith; read = λ e. absurd (cc e); write = λ e. absurd (cc e) }

pub returns-in-Err-clause-cause : goal.returns-in-Err-clause-cause
returns-in-Err-clause-cause g c = let reads = c.in-Err.ensures.cause in
    record { reads_later = reads.later; writes_later = omega arith; read = λ e. reads.failed; write = λ e. absurd (cc e) }

pub returns-in-Ok-Ended-clause-cause : goal.returns-in-Ok-Ended-clause-cause
returns-in-Ok-Ended-clause-cause g c = let k = c.end_input.ensures.cause in
    record { reads_later = c.take_request.ensures.cause.later; writes_later = k.later; read = λ e. absurd (k.not_read e); write = k.write }

pub returns-in-Err-answer-clause-cause : goal.returns-in-Err-answer-clause-cause
returns-in-Err-answer-clause-cause g c = let reads = c.take_request.ensures.cause in let k = c.in-Err-answer.ensures.cause in
    record { reads_later = reads.later; writes_later = k.later; read = λ e. absurd (k.not_read (ap Err (cc e))); write = λ e. k.write (ap Err (cc e)) }

pub returns-clause-cause : goal.returns-clause-cause
returns-clause-cause g c = let reads = c.take_request.ensures.cause in let writes = c.answer.ensures.cause in
    record { reads_later = reads.later; writes_later = writes.later; read = λ e. absurd (cc e); write = λ e. absurd (cc e) }

pub returns-in-Err-clause-used : goal.returns-in-Err-clause-used
returns-in-Err-clause-used g c =
    let before = g.S.Source.left c.args.lines.now in let left = g.S.Source.left c.take_request.new.lines in let read = c.args.read.now in
    subst (λ v. UsesLines 256 read read v.held before c.take_request.new.input left) c.self.view_is
    (used_none 256 read read c.self.inside.input c.take_request.new.input before left (omega arith) c.in-Err.ensures.same)

pub returns-in-Err-answer-clause-used : goal.returns-in-Err-answer-clause-used
returns-in-Err-answer-clause-used g c = λ bytes e. let u = c.take_request.ensures.used bytes e in
    (u.0, u.1, u.2, ap (λ v. v.held ++ bytes) (sym c.self.view_is) ∙ u.3, omega (arith, u.4))

pub returns-clause-used : goal.returns-clause-used
returns-clause-used g c = λ bytes e. let u = c.take_request.ensures.used bytes e in
    (u.0, u.1, u.2, ap (λ v. v.held ++ bytes) (sym c.self.view_is) ∙ u.3, omega (arith, u.4))

pub returns-then-read-eq-MOST_LINES-clause-written : goal.returns-then-read-eq-MOST_LINES-clause-written
returns-then-read-eq-MOST_LINES-clause-written g c = λ bytes e.
    (bytes, [], e, (c.requires.turn, c.if-read-eq-MOST_LINES.true, refl), refl, append_none (g.K.Sink.holds c.args.out.now))
