use Rattle.std.proofs.Common.{arith}
use Rattle.benson_life.proofs.ContestLemmas.{counted_short}
use Rattle.benson_life.proofs.territory.counted_set.Goals as goal

pub of-requires : goal.of-requires
of-requires c k d lt =
    omega (arith, counted_short c.args.board.now c.args.colour c.args.counted.now c.requires k d lt, c.size-size.ensures.most)

pub returns : goal.returns
returns c p = (λ m. (c.requires.exact p).0 ((c.«of».ensures p).0 m), λ a. (c.«of».ensures p).1 ((c.requires.exact p).1 a))
