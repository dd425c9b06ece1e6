use Rattle.std.proofs.Common.{arith}
use Rattle.std.proofs.lemmas.Int.{ints}
use Rattle.dyadic_num.proofs.SimplestLemmas.{along, between-from}
use Rattle.dyadic_num.proofs.ExponentLemmas.{by_exponents}
use Rattle.dyadic_num.proofs.simplest_between.Goals as goal

pub returns : goal.returns
returns c = by_exponents _ _ _ (between-from c.args.low c.args.high _ c.low_end-low.ensures.small c.high_end-high.ensures.small
    (let e = c.low_end-low.ensures.end in let f = c.high_end-high.ensures.end in along 60 _ _ _ _ _ _ (grind (arith, ints)) (grind (arith, ints)) (grind (arith, ints)) c.simplest_inside.ensures))
