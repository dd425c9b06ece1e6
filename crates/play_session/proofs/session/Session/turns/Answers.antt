use Rattle.std.proofs.Common.{refl, ap, sym, ◌∙◌, subst, arith, le_refl, le_trans, Ok, Err, Some, None}
use Rattle.desk_io.specs.declared.lines.TheConstants.{MOST_LINES}
use Rattle.whole_rules.specs.FirstWinningMove.{IsWinner}
use Rattle.play_session.specs.Written.{standing}
use Rattle.play_session.specs.inner.Written.{TurnWritten}
use Rattle.play_session.proofs.SessionLaws.{going_start, going_turn, going_ended, going_failed}
use Rattle.play_session.proofs.TurnRoomLaws.{begin_room, some_room, turn_room}
use Rattle.desk_io.proofs.UsedLineLemmas.{used_most, used_none, used_then}
use Rattle.desk_io.proofs.HeldLemmas.{input_same}
use Rattle.play_session.proofs.session.Session.turns.Goals as goal

pub turn-requires-clause-room : goal.turn-requires-clause-room
turn-requires-clause-room g c = some_room c.turns.self c.turns.read c.turns.invariant.7

pub turns-init : goal.turns-init
turns-init g c =
    let left = g.S.Source.left c.args.lines.now in
    (going_start c.args.self.now left (g.K.Sink.holds c.args.out.now), refl, (λ w. w), omega arith, le_refl _, le_refl _, used_none 256 0 0 c.args.self.now.held c.args.self.now.held left left (omega arith) (input_same c.args.self.now.held left), begin_room c.args.self.now c.requires.room)

pub returns-in-Err-clause-used : goal.returns-in-Err-clause-used
returns-in-Err-clause-used g c =
    let start = c.args.self.now in let at = c.turns in let new = c.turn.new.self in let before = g.S.Source.left c.args.lines.now in let left' = g.S.Source.left c.turn.new.lines in
    used_most 256 c.turn.new.read MOST_LINES start.held new.held before left' c.turn.ensures.few_read (used_then 256 0 at.read c.turn.new.read start.held at.self.held new.held before (g.S.Source.left at.lines) left' at.invariant.6 c.turn.ensures.used)

pub returns-in-Ok-Some-clause-used : goal.returns-in-Ok-Some-clause-used
returns-in-Ok-Some-clause-used g c =
    let start = c.args.self.now in let at = c.turns in let new = c.turn.new.self in let before = g.S.Source.left c.args.lines.now in let left' = g.S.Source.left c.turn.new.lines in
    used_most 256 c.turn.new.read MOST_LINES start.held new.held before left' c.turn.ensures.few_read (used_then 256 0 at.read c.turn.new.read start.held at.self.held new.held before (g.S.Source.left at.lines) left' at.invariant.6 c.turn.ensures.used)

pub returns-in-Err-clause-written : goal.returns-in-Err-clause-written
returns-in-Err-clause-written g c =
    let start = c.args.self.now in let at = c.turns in let left = g.S.Source.left at.lines in let holds = g.K.Sink.holds at.out in
    let new = c.turn.new.self in let left' = g.S.Source.left c.turn.new.lines in let holds' = g.K.Sink.holds c.turn.new.out in
    going_failed start (g.S.Source.left c.args.lines.now) (g.K.Sink.holds c.args.out.now) at.self at.read left holds at.invariant.0 new c.turn.new.read left' holds' c.in-Err.fault
    (λ rest e. subst (λ s. TurnWritten s (standing at.self at.read rest) holds holds' (Err c.in-Err.fault) new c.turn.new.read left') at.invariant.1 (c.in-Err.ensures.written rest e))

pub returns-in-Ok-Some-clause-written : goal.returns-in-Ok-Some-clause-written
returns-in-Ok-Some-clause-written g c =
    let start = c.args.self.now in let at = c.turns in let left = g.S.Source.left at.lines in let holds = g.K.Sink.holds at.out in
    let new = c.turn.new.self in let left' = g.S.Source.left c.turn.new.lines in let holds' = g.K.Sink.holds c.turn.new.out in
    let r = c.in-Ok-Some in
    going_ended start (g.S.Source.left c.args.lines.now) (g.K.Sink.holds c.args.out.now) at.self at.read left holds at.invariant.0 new c.turn.new.read left' holds' r.end
    (λ rest e. subst (λ s. TurnWritten s (standing at.self at.read rest) holds holds' (Ok (Some r.end)) new c.turn.new.read left') at.invariant.1
    (subst (λ x. TurnWritten at.self.engine (standing at.self at.read rest) holds holds' (Ok x) new c.turn.new.read left') r.field-0-is (r.ensures.written rest e)))

pub turns-preserved : goal.turns-preserved
turns-preserved g c =
    let start = c.args.self.now in let at = c.turns in let left = g.S.Source.left at.lines in let holds = g.K.Sink.holds at.out in
    let new = c.turn.new.self in let left' = g.S.Source.left c.turn.new.lines in let holds' = g.K.Sink.holds c.turn.new.out in
    let r = c.in-Ok-None in let inv = at.invariant in (
      going_turn start (g.S.Source.left c.args.lines.now) (g.K.Sink.holds c.args.out.now) at.self at.read left holds inv.0 new c.turn.new.read left' holds'
          (λ rest e. subst (λ s. TurnWritten s (standing at.self at.read rest) holds holds' (Ok None) new c.turn.new.read left') inv.1
          (subst (λ x. TurnWritten at.self.engine (standing at.self at.read rest) holds holds' (Ok x) new c.turn.new.read left') r.field-0-is (r.ensures.written rest e))),
      c.turn.ensures.engine ∙ inv.1,
      λ w. subst (λ s. IsWinner new.game.state s) inv.1 (c.turn.ensures.keeps (subst (λ s. IsWinner at.self.game.state s) (sym inv.1) (inv.2 w))).0,
      c.turn.ensures.few_read,
      le_trans inv.4 c.turn.ensures.cause.reads_later,
      le_trans inv.5 c.turn.ensures.cause.writes_later,
      used_then 256 0 at.read c.turn.new.read start.held at.self.held new.held (g.S.Source.left c.args.lines.now) left left' inv.6 c.turn.ensures.used,
      turn_room at.self new at.read c.turn.new.read (c.turn.ensures.fewer (r.is ∙ ap Ok r.field-0-is)) inv.7 c.turn.ensures.room,
    )
