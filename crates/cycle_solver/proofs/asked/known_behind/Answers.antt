use Rattle.std.proofs.Common.{arith}
use Rattle.cycle_solver.proofs.AskedLaws.{known_won}
use Rattle.cycle_solver.proofs.ChangeLaws.{stone_inside, stone_known}
use Rattle.cycle_solver.proofs.asked.known_behind.Goals as goal

pub value_with-after-requires-clause-number : goal.value_with-after-requires-clause-number
value_with-after-requires-clause-number c = omega (arith, stone_known c.args.present.now c.args.change c.requires.change c.in-Some.is, c.requires.seen.0.solved.many)

pub value_with-after-requires-clause-place : goal.value_with-after-requires-clause-place
value_with-after-requires-clause-place c =
    stone_inside c.args.present.now c.requires.seen.0 c.args.change c.requires.change c.in-Some.is c.args.player 255

pub returns-in-Some : goal.returns-in-Some
returns-in-Some c =
    known_won c.args.present.now c.requires.seen.0 c.args.change c.requires.change c.in-Some.is c.args.player c.requires.seen.1
    c.value_with-after.ensures c.requires.right _ c.known_margin.result c.known_margin.ensures
