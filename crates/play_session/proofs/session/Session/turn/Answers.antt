use Rattle.std.proofs.Common.{sym, ap, ◌∙◌, subst, arith, Err, None}
use Rattle.go_grid.specs.Board.{other}
use Rattle.whole_rules.specs.FirstWinningMove.{IsWinner}
use Rattle.whole_rules.specs.WholeGame.{IsFirstMove}
use Rattle.play_session.specs.Written.{Session, standing}
use Rattle.play_session.specs.inner.Written.{TurnWritten}
use Rattle.play_session.proofs.SideLaws.{not_other}
use Rattle.play_session.proofs.TurnLaws.{engine_failed, game_ended}
use Rattle.play_session.proofs.WinLaws.{engine_keeps, opponent_keeps, end_keeps}
use Rattle.desk_io.specs.Lines.{UsesLines}
use Rattle.desk_io.proofs.HeldLemmas.{input_same}
use Rattle.desk_io.proofs.UsedLineLemmas.{used_none}
use Rattle.play_session.proofs.session.Session.turn.Goals as goal

pub returns-in-Err-clause-used : goal.returns-in-Err-clause-used
returns-in-Err-clause-used g c =
    let held = c.self.inside.input in let left = g.S.Source.left c.args.lines.now in let read = c.args.read.now in
    subst (λ v. UsesLines 256 read read v.held left held left) c.self.view_is (used_none 256 read read held held left left (omega arith) (input_same held left))

pub returns-clause-used : goal.returns-clause-used
returns-clause-used g c =
    let held = c.self.inside.input in let left = g.S.Source.left c.args.lines.now in let read = c.args.read.now in
    subst (λ v. UsesLines 256 read read v.held left held left) c.self.view_is (used_none 256 read read held held left left (omega arith) (input_same held left))

pub returns-in-None-clause-written : goal.returns-in-None-clause-written
returns-in-None-clause-written g c = λ bytes e.
    let i = c.self.inside in let before = g.K.Sink.holds c.args.out.now in let now = g.K.Sink.holds c.end_game.new.out in let left = g.S.Source.left c.args.lines.now in
    let session : Session = record { game = i.player; engine = i.engine; held = i.input } in
    let none : IsFirstMove i.player.state None = subst (λ s. IsFirstMove s None) c.whole-2.ensures c.in-None.ensures in
    let winner = c.other.ensures ∙ ap other (c.side-side.ensures ∙ ap (λ s. s.side) c.whole.ensures) in
    subst (λ v. TurnWritten v.engine (standing v c.args.read.now bytes) before now c.end_game.result v c.args.read.now left) c.self.view_is
    (game_ended session c.args.read.now bytes left before now c.other.result c.end_game.result e (λ m. none m.0 m.1) winner c.end_game.ensures.bytes c.end_game.ensures.cause.not_read c.end_game.ensures.end)

pub returns-in-None-clause-keeps : goal.returns-in-None-clause-keeps
returns-in-None-clause-keeps g c = λ w.
    let i = c.self.inside in
    let none : IsFirstMove i.player.state None = subst (λ s. IsFirstMove s None) c.whole-2.ensures c.in-None.ensures in
    let winner = c.other.ensures ∙ ap other (c.side-side.ensures ∙ ap (λ s. s.side) c.whole.ensures) in
    (w, end_keeps i.player.state i.engine c.other.result c.end_game.result (subst (λ v. IsWinner v.game.state v.engine) (sym c.self.view_is) w) none winner c.end_game.ensures.end)

pub returns-then-not-is-clause-keeps : goal.returns-then-not-is-clause-keeps
returns-then-not-is-clause-keeps g c = λ w.
    let i = c.self.inside in
    let side = c.side-side.ensures ∙ ap (λ s. s.side) c.whole.ensures ∙ ap (λ v. v.game.state.side) c.self.view_is in
    let turn = sym side ∙ not_other c.side-side.result c.args.self.now.engine (λ same. absurd (cc (sym c.if-not-is.true ∙ c.is.ensures.1 (same ∙ sym (ap (λ v. v.engine) c.self.view_is))))) in
    (opponent_keeps c.args.self.now.game.state c.opponent_turn.new.self.game.state c.args.self.now.engine turn w c.opponent_turn.ensures.stepped, c.opponent_turn.ensures.never_lost)

pub returns-in-Err-clause-written : goal.returns-in-Err-clause-written
returns-in-Err-clause-written g c = λ bytes e.
    let i = c.self.inside in let before = g.K.Sink.holds c.args.out.now in let now = g.K.Sink.holds c.move_engine.new.out in let left = g.S.Source.left c.args.lines.now in
    let session : Session = record { game = i.player; engine = i.engine; held = i.input } in
    let new : Session = record { game = c.move_engine.new.player; engine = i.engine; held = i.input } in
    let turn = sym (c.side-side.ensures ∙ ap (λ s. s.side) c.whole.ensures) ∙ c.is.ensures.0 c.if-not-is.false in
    let m = c.in-Err.ensures.moved in
    subst (λ v. TurnWritten v.engine (standing v c.args.read.now bytes) before now (Err c.in-Err.fault) new c.args.read.now left) c.self.view_is
    (engine_failed session c.args.read.now bytes left before now c.move_engine.new.player m.0 c.in-Err.fault new turn m.1 (λ k. c.in-Err.ensures.cause.not_read (ap Err k)) m.2)

pub returns-in-Err-clause-keeps : goal.returns-in-Err-clause-keeps
returns-in-Err-clause-keeps g c = λ w.
    let i = c.self.inside in let m = c.move_engine.ensures.moved in
    let turn = sym (c.side-side.ensures ∙ ap (λ s. s.side) c.whole.ensures) ∙ c.is.ensures.0 c.if-not-is.false in
    let kept = engine_keeps i.player c.move_engine.new.player i.engine m.0 turn (subst (λ v. IsWinner v.game.state v.engine) (sym c.self.view_is) w) m.1 in
    (subst (λ v. IsWinner c.move_engine.new.player.state v.engine) c.self.view_is kept, λ n. absurd (cc n))

pub returns-clause-keeps : goal.returns-clause-keeps
returns-clause-keeps g c = λ w.
    let i = c.self.inside in let m = c.move_engine.ensures.moved in
    let turn = sym (c.side-side.ensures ∙ ap (λ s. s.side) c.whole.ensures) ∙ c.is.ensures.0 c.if-not-is.false in
    let kept = engine_keeps i.player c.move_engine.new.player i.engine m.0 turn (subst (λ v. IsWinner v.game.state v.engine) (sym c.self.view_is) w) m.1 in
    (subst (λ v. IsWinner c.move_engine.new.player.state v.engine) c.self.view_is kept, λ n. absurd (cc n))

pub returns-in-None-clause-cause : goal.returns-in-None-clause-cause
returns-in-None-clause-cause g c = let k = c.end_game.ensures.cause in
    record { reads_later = omega arith; writes_later = k.later; read = λ e. absurd (k.not_read e); write = k.write }

pub returns-then-not-is-clause-cause : goal.returns-then-not-is-clause-cause
returns-then-not-is-clause-cause g c = c.opponent_turn.ensures.cause

pub returns-in-Err-clause-cause : goal.returns-in-Err-clause-cause
returns-in-Err-clause-cause g c = let k = c.in-Err.ensures.cause in
    record { reads_later = omega arith; writes_later = k.later; read = λ e. absurd (k.not_read (ap Err (cc e))); write = λ e. k.write (ap Err (cc e)) }

pub returns-clause-cause : goal.returns-clause-cause
returns-clause-cause g c =
    record { reads_later = omega arith; writes_later = c.move_engine.ensures.cause.later; read = λ e. absurd (cc e); write = λ e. absurd (cc e) }

pub returns-then-not-is-clause-written : goal.returns-then-not-is-clause-written
returns-then-not-is-clause-written g c = c.opponent_turn.ensures.written
