use Rattle.std.proofs.Common.{subst, Err}
use Rattle.play_session.specs.Written.{standing}
use Rattle.play_session.specs.inner.Written.{IsPlayedTo}
use Rattle.play_session.proofs.session.Session.run.Goals as goal

pub returns-in-Err-Read-clause-text : goal.returns-in-Err-Read-clause-text
returns-in-Err-Read-clause-text g c = λ bytes e.
    let start = c.args.self.now in
    subst (λ f. IsPlayedTo start.engine (standing start 0 bytes) (g.K.Sink.holds c.args.out.now) (g.K.Sink.holds c.turns.new.out) (Err f) c.turns.new.self (g.S.Source.left c.turns.new.lines))
    c.in-Err-Read.field-0-is (c.in-Err-Read.ensures.written bytes e)

pub returns-in-Err-Write-clause-text : goal.returns-in-Err-Write-clause-text
returns-in-Err-Write-clause-text g c = λ bytes e.
    let start = c.args.self.now in
    subst (λ f. IsPlayedTo start.engine (standing start 0 bytes) (g.K.Sink.holds c.args.out.now) (g.K.Sink.holds c.turns.new.out) (Err f) c.turns.new.self (g.S.Source.left c.turns.new.lines))
    c.in-Err-Write.field-0-is (c.in-Err-Write.ensures.written bytes e)
