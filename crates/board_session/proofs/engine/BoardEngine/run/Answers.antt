use Rattle.std.proofs.Common.{subst}
use Rattle.desk_io.specs.declared.lines.TheConstants.{MOST_LINES}
use Rattle.gtp_words.specs.Sessions.{WritesByEnd}
use Rattle.gtp_words.specs.Steps.{StepsByEnd, StepsOfLines, counted}
use Rattle.board_session.specs.Session.{AnswersLine}
use Rattle.board_orders.specs.States.{BoardState}
use Rattle.board_session.specs.Steps.{AreLineSteps}
use Rattle.board_session.proofs.engine.BoardEngine.run.Goals as goal

pub returns-clause-text : goal.returns-clause-text
returns-clause-text g c bytes e =
    let a = c.args.self.now in let new = c.run_session.new in
    subst (λ x. WritesByEnd BoardState (AnswersLine a.limits (g.H.Shelf.files c.args.shelf.now)) new.engine.loads.failures x.state bytes (g.K.Sink.holds c.args.out.now) (g.K.Sink.holds new.out) new.engine.state
    (g.S.Source.left new.lines) c.run_session.result) c.requires.first (c.run_session.ensures.text bytes e)

pub returns-clause-steps : goal.returns-clause-steps
returns-clause-steps g c bytes e =
    let a = c.args.self.now in let new = c.run_session.new in
    subst (λ x. StepsByEnd BoardState (AreLineSteps a.limits) (AnswersLine a.limits (g.H.Shelf.files c.args.shelf.now)) new.engine.loads.failures (counted x.state c.args.steps.now) bytes (g.K.Sink.holds c.args.out.now)
    (g.K.Sink.holds new.out) (counted new.engine.state new.steps) (g.S.Source.left new.lines) c.run_session.result) c.requires.first (c.run_session.ensures.steps bytes e)

pub returns-clause-lines : goal.returns-clause-lines
returns-clause-lines g c =
    let a = c.args.self.now in let new = c.run_session.new in
    subst (λ x. StepsOfLines (AreLineSteps a.limits) (AnswersLine a.limits (g.H.Shelf.files c.args.shelf.now)) MOST_LINES (counted x.state c.args.steps.now) (counted new.engine.state new.steps))
    c.requires.first c.run_session.ensures.lines
