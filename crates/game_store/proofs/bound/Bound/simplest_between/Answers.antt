use Rattle.std.proofs.Common.{arith}
use Rattle.std.proofs.lemmas.Int.{ints}
use Rattle.dyadic_num.proofs.SimplestLemmas.{along}
use Rattle.game_store.proofs.bound.Bound.simplest_between.Goals as goal

pub returns : goal.returns
returns c = along 61 _ _ _ _ _ _ (grind (arith, ints)) (grind (arith, ints)) (grind (arith, ints)) c.simplest_inside.ensures
