use Rattle.std.proofs.Common.{arith}
use Rattle.go_grid.specs.Board.{HasStone}
use Rattle.go_grid.proofs.WalkLemmas.{joined_end}
use Rattle.go_grid.proofs.boards.Board.liberties.Goals as goal

pub edge-requires-clause-inside : goal.edge-requires-clause-inside
edge-requires-clause-inside c p m =
    let g = c.args.self.now in
    let at = joined_end g.columns (HasStone g c.args.colour) c.args.stone p ((c.chain.ensures p).0 m) in
    omega (arith, at.0, c.size.ensures.area)
