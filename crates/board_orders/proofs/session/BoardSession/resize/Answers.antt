use Rattle.std.proofs.Common.{inl, inr, arith}
use Rattle.board_orders.proofs.OrderLemmas.{size_refused, size_taken}
use Rattle.board_orders.proofs.session.BoardSession.resize.Goals as goal
use Rattle.board_orders.proofs.session.BoardSession.resize.Goals.{then-number-lt1-via-then-number-lt1, then-number-lt1-via-else-number-lt1+then-number-gt25}

pub returns-then-number-lt1-clause-resized : goal.returns-then-number-lt1-clause-resized
returns-then-number-lt1-clause-resized c =
    size_refused c.args.self.now c.args.number c.args.id.now c.in_ok-reply.reply (elim c.then-number-lt1.branch [
      | then-number-lt1-via-then-number-lt1 w ↦ inl w.if-number-lt1.true
      | then-number-lt1-via-else-number-lt1+then-number-gt25 w ↦ inr w.if-number-gt25.true
    ]) c.in_ok-reply.ensures

pub returns-clause-resized : goal.returns-clause-resized
returns-clause-resized c =
    size_taken c.args.self.now c.clear.new.self c.args.number c.args.id.now c.in_ok-reply-2.reply (omega (arith, c.if-number-lt1.false)) (omega (arith, c.if-number-gt25.false))
    c.in_ok-reply-2.ensures.cleared.1 c.in_ok-reply-2.ensures.cleared.0
