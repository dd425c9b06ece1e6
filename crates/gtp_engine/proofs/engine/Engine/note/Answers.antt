use Rattle.std.proofs.Common.{IfOk, subst, sym}
use Rattle.gtp_engine.specs.inner.Doing.{IsLoadNoted}
use Rattle.gtp_engine.proofs.engine.Engine.note.Goals as goal

pub returns-in-Position-clause-noted : goal.returns-in-Position-clause-noted
returns-in-Position-clause-noted c =
    subst (λ l. IfOk c.take_up.result (λ reply. IsLoadNoted c.args.id.now l c.args.self.now reply c.take_up.new.self)) (sym c.in-Position.is) c.take_up.ensures.noted
