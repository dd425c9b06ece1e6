use Rattle.std.proofs.Common.{arith}
use Rattle.go_grid.proofs.PointsLemmas.{item_is}
use Rattle.benson_life.proofs.EyesLemmas.{adds_start, adds_next, adds_all}
use Rattle.benson_life.proofs.eyes.add_eyes.Goals as goal

pub loop-near-init : goal.loop-near-init
loop-near-init c = adds_start c.args.board.now c.args.colour c.args.survey.now c.requires.survey _ _ _

pub loop-near-preserved : goal.loop-near-preserved
loop-near-preserved c =
    adds_next c.args.board.now c.args.colour c.args.survey.now c.requires.survey _ _ _ _ _ _ _ c.loop-near.invariant
    (item_is _ _ _ c.loop-near-test.true c.near-item.is) c.in_ok-add_eye.ensures

pub returns : goal.returns
returns c =
    adds_all c.args.board.now c.args.colour c.args.survey.now c.requires.survey _ _ _ _ _ _ c.loop-near.invariant c.loop-near-test.false
    c.requires.point (rw (c.size.ensures.columns, ← c.as_slice-near-items.ensures) at c.look_around.ensures.around)
    (omega (arith, rw c.size.ensures.columns at c.size.ensures.area))
