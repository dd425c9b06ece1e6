use Rattle.std.proofs.Common.{arith, refl}
use Rattle.std.proofs.lemmas.Int.{ints}
use Rattle.dyadic_num.proofs.SimplestLemmas.{along, mirrored}
use Rattle.dyadic_num.proofs.simplest_inside.Goals as goal

pub returns-then-low-ge0 : goal.returns-then-low-ge0
returns-then-low-ge0 c = along c.args.exponent _ _ _ c.args.low c.args.high _ (grind (arith, ints)) (grind (arith, ints)) (let p = c.simplest_above.ensures.passes in grind (arith, ints)) c.simplest_above.ensures

pub returns-then-high-le0 : goal.returns-then-high-le0
returns-then-high-le0 c = along c.args.exponent _ _ _ c.args.low c.args.high _ refl refl (let p = c.simplest_above-then-high-le0.ensures.passes in grind (arith, ints))
    (mirrored c.args.exponent c.args.low c.args.high _ _ _ (grind (arith, ints)) (grind (arith, ints)) c.simplest_above-then-high-le0.ensures)
