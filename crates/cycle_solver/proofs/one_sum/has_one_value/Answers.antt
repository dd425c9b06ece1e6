use Rattle.std.proofs.Common.{arith}
use Rattle.go_grid.specs.declared.grid.Colour.TheVariants.{Black, White}
use Rattle.cycle_solver.proofs.ChangeLaws.{stone_inside, stone_known}
use Rattle.cycle_solver.proofs.one_sum.has_one_value.Goals as goal

pub value_with-requires-clause-number : goal.value_with-requires-clause-number
value_with-requires-clause-number c = omega (arith, stone_known c.args.present.now c.args.change c.requires.change c.in-Some.is, c.requires.seen.solved.many)

pub value_with-requires-clause-place : goal.value_with-requires-clause-place
value_with-requires-clause-place c = stone_inside c.args.present.now c.requires.seen c.args.change c.requires.change c.in-Some.is Black 255

pub value_with-requires-in-Some-clause-number : goal.value_with-requires-in-Some-clause-number
value_with-requires-in-Some-clause-number c = omega (arith, stone_known c.args.present.now c.args.change c.requires.change c.in-Some.is, c.requires.seen.solved.many)

pub value_with-requires-in-Some-clause-place : goal.value_with-requires-in-Some-clause-place
value_with-requires-in-Some-clause-place c = stone_inside c.args.present.now c.requires.seen c.args.change c.requires.change c.in-Some.is White 255
