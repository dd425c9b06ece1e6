use Rattle.std.proofs.Common.{arith, below_more}
use Rattle.go_grid.proofs.ChainLemmas.{all_settled, first_unsettled}
use Rattle.go_grid.proofs.boards.Board.unsettled.Goals as goal

pub loop-number-preserved : goal.loop-number-preserved
loop-number-preserved c = below_more _ _ c.loop-number.invariant c.if-not-is_settled_at.ensures.settled

pub returns-then-not-is_settled_at : goal.returns-then-not-is_settled_at
returns-then-not-is_settled_at c =
    first_unsettled c.args.self.now c.loop-number.number c.loop-number.invariant
    c.if-not-is_settled_at.ensures.unsettled

pub returns : goal.returns
returns c =
    all_settled c.args.self.now c.loop-number.number c.loop-number.invariant
    (omega (arith, c.loop-number-test.false, c.area-number-end.ensures.value, c.size.ensures.area))
