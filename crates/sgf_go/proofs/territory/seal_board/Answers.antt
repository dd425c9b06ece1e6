use Rattle.std.proofs.Common.{◌<◌, ◌+◌, arith, length, subst, sym}
use Rattle.sgf_go.specs.Territory.{Becomes}
use Rattle.sgf_go.specs.inner.Territory.{SealsBelow, marking}
use Rattle.sgf_go.proofs.SealLemmas.{seals_step}
use Rattle.sgf_go.proofs.territory.seal_board.Goals as goal

pub loop-number-preserved : goal.loop-number-preserved
loop-number-preserved c =
    let M = marking c.args.marks.now in
    let Edge = marking c.args.edges.now in
    let on : c.loop-number.number < length c.args.board.now.cells = omega (arith, c.loop-number-test.true, c.area-number-end.ensures.value, c.size.ensures.area) in
    let here = subst (λ was. Becomes M Edge c.loop-number.number was c.seal_point-sealed.result.cell c.seal_point-sealed.result.declared) c.get.ensures c.seal_point-sealed.ensures in
    subst (λ h. SealsBelow M Edge c.args.board.now (c.loop-number.number + 1) h c.push.new.self.items) (sym c.set.ensures)
    (subst (SealsBelow M Edge c.args.board.now (c.loop-number.number + 1) _) (sym c.in_ok-push.ensures.items)
    (seals_step M Edge c.args.board.now c.loop-number.board c.loop-number.number c.seal_point-sealed.result.cell c.seal_point-sealed.result.declared c.loop-number.declared.items on c.loop-number.invariant here))
