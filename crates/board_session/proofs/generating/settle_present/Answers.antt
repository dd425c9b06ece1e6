use Rattle.std.proofs.Common.{arith}
use Rattle.go_grid.specs.declared.grid.Colour.TheVariants.{Black, White}
use Rattle.board_session.proofs.generating.settle_present.Goals as goal

pub settle-requires-clause-black : goal.settle-requires-clause-black
settle-requires-clause-black c =
    let position = c.present-position.ensures in
    omega (arith, c.of-black.ensures, position.fit.prisoners Black, position.start Black, c.requires)

pub settle-requires-clause-white : goal.settle-requires-clause-white
settle-requires-clause-white c =
    let position = c.present-position.ensures in
    omega (arith, c.of-white.ensures, position.fit.prisoners White, position.start White, c.requires)
