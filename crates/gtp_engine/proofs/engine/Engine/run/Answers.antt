use Rattle.std.proofs.Common.{subst}
use Rattle.desk_io.specs.declared.lines.TheConstants.{MOST_LINES}
use Rattle.gtp_words.specs.Sessions.{WritesByEnd}
use Rattle.gtp_words.specs.Steps.{StepsByEnd, StepsOfLines, counted}
use Rattle.gtp_engine.specs.Session.{AnswersLine, Table}
use Rattle.gtp_engine.specs.Steps.{AreLineSteps}
use Rattle.gtp_engine.proofs.engine.Engine.run.Goals as goal

pub returns-clause-text : goal.returns-clause-text
returns-clause-text g c bytes e =
    let a = c.args.self.now in let new = c.run_session.new in
    subst (λ x. WritesByEnd Table (AnswersLine a.limits (g.H.Shelf.files c.args.shelf.now)) new.engine.loads.failures x.table bytes (g.K.Sink.holds c.args.out.now) (g.K.Sink.holds new.out) new.engine.table
    (g.S.Source.left new.lines) c.run_session.result) c.requires.first (c.run_session.ensures.text bytes e)

pub returns-clause-steps : goal.returns-clause-steps
returns-clause-steps g c bytes e =
    let a = c.args.self.now in let new = c.run_session.new in
    subst (λ x. StepsByEnd Table (AreLineSteps a.limits) (AnswersLine a.limits (g.H.Shelf.files c.args.shelf.now)) new.engine.loads.failures (counted x.table c.args.steps.now) bytes (g.K.Sink.holds c.args.out.now)
    (g.K.Sink.holds new.out) (counted new.engine.table new.steps) (g.S.Source.left new.lines) c.run_session.result) c.requires.first (c.run_session.ensures.steps bytes e)

pub returns-clause-lines : goal.returns-clause-lines
returns-clause-lines g c =
    let a = c.args.self.now in let new = c.run_session.new in
    subst (λ x. StepsOfLines (AreLineSteps a.limits) (AnswersLine a.limits (g.H.Shelf.files c.args.shelf.now)) MOST_LINES (counted x.table c.args.steps.now) (counted new.engine.table new.steps))
    c.requires.first c.run_session.ensures.lines
