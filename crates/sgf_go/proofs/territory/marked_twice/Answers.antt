use Rattle.std.proofs.Common.{arith}
use Rattle.go_grid.specs.declared.grid.Colour.TheVariants.{Black}
use Rattle.sgf_go.proofs.territory.marked_twice.Goals as goal

pub returns-clause-none : goal.returns-clause-none
returns-clause-none c = λ p twice. c.loop-number.invariant p (omega (arith, c.requires Black p twice.0, c.area-number-end.ensures.value, c.size.ensures.area, c.loop-number-test.false)) twice
