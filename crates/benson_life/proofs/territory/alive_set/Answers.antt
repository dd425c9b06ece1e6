use Rattle.std.proofs.Common.{arith}
use Rattle.benson_life.proofs.ContestLemmas.{alive_short, alive_is}
use Rattle.benson_life.proofs.territory.alive_set.Goals as goal

pub of-requires : goal.of-requires
of-requires c k d lt =
    omega (arith, alive_short c.args.board.now c.args.colour c.args.alive.now c.requires k d lt, c.size-size.ensures.most)

pub returns : goal.returns
returns c p =
    let is = alive_is c.args.board.now c.args.colour c.args.alive.now c.requires p in
    (λ m. is.0 ((c.«of».ensures p).0 m), λ a. (c.«of».ensures p).1 (is.1 a))
