use Rattle.std.proofs.Common.{◌+◌, arith, sym, subst}
use Rattle.sgf_go.specs.Setup.{IsSet}
use Rattle.sgf_go.proofs.AreaLemmas.{Before, row_step}
use Rattle.sgf_go.proofs.replay.set_row.Goals as goal

pub loop-column-preserved : goal.loop-column-preserved
loop-column-preserved c =
    let g = c.args.board.now in
    subst (λ x. IsSet g (Before g.columns c.args.row c.args.left c.args.right (c.loop-column.column + 1)) c.args.cell x) (sym c.set.ensures)
    (row_step g c.loop-column.board c.args.row c.args.left c.args.right c.loop-column.column _ c.args.cell c.loop-column.auto.column (omega (arith, c.loop-column-test.true)) c.requires.column c.requires.row c.size-size.ensures.grid.full (cc) c.loop-column.invariant)
