use Rattle.std.proofs.Common.{IfOk, subst, sym}
use Rattle.board_session.specs.inner.Doing.{CanTakeUp}
use Rattle.board_session.specs.inner.Obeying.{IsLoadNoted}
use Rattle.board_session.proofs.engine.BoardEngine.note.Goals as goal

pub take_up-requires-clause-fit : goal.take_up-requires-clause-fit
take_up-requires-clause-fit c = subst CanTakeUp c.in-Position.is c.requires.fit

pub returns-in-Position-clause-noted : goal.returns-in-Position-clause-noted
returns-in-Position-clause-noted c =
    subst (λ l. IfOk c.take_up.result (λ reply. IsLoadNoted c.args.id.now l c.args.self.now reply c.take_up.new.self)) (sym c.in-Position.is) c.take_up.ensures.noted
