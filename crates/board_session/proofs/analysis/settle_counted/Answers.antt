use Rattle.std.proofs.Common.{arith}
use Rattle.go_grid.specs.declared.grid.Colour.TheVariants.{Black, White}
use Rattle.board_session.proofs.analysis.settle_counted.Goals as goal

pub settle-requires-clause-black : goal.settle-requires-clause-black
settle-requires-clause-black c =
    let position = c.present-position.ensures in
    omega (arith, c.requires, c.of.ensures, c.of-2.ensures, position.fit.prisoners Black, position.fit.passes White, position.start Black)

pub settle-requires-clause-white : goal.settle-requires-clause-white
settle-requires-clause-white c =
    let position = c.present-position.ensures in
    omega (arith, c.requires, c.of-3.ensures, c.of-4.ensures, position.fit.prisoners White, position.fit.passes Black, position.start White)
