use Rattle.std.proofs.Common.{arith, ◌≤◌, take}
use Rattle.std.proofs.lemmas.List.{length-take, take_all}
use Rattle.benson_life.proofs.HeldLemmas.{held_is, worth_le, short}
use Rattle.benson_life.proofs.counted_points.held.Goals as goal
use Rattle.benson_life.proofs.counted_points.held.Goals.{in-Empty-default, in-White-Black, in-White-White, in-Black-White, in-Black-Black}

pub overflow_add-total : goal.overflow_add-total
overflow_add-total c =
    let few = short c.args.counted.now _ c.requires.ascending c.requires.on_board in
    let so_far = worth_le c.args.board.now c.args.colour (take c.loop-point.point-index c.args.counted.now) in
    let part = length-take c.loop-point.point-index c.args.counted.now in
    let one : c.match-get.total ≤ 2 =
    elim c.match-get.branch [
      | in-Empty-default w ↦ omega arith
      | in-White-Black w ↦ omega arith
      | in-White-White w ↦ omega arith
      | in-Black-White w ↦ omega arith
      | in-Black-Black w ↦ omega arith
    ] in
    omega (arith, c.loop-point.invariant, c.size-size.ensures.most)

pub returns-clause-held : goal.returns-clause-held
returns-clause-held c =
    held_is c.args.board.now c.args.colour c.args.counted.now c.loop-point.total
    (rw (take_all c.loop-point.point-index c.args.counted.now (omega arith)) at c.loop-point.invariant)
