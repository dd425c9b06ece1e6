use Rattle.std.proofs.Common.{◌-◌, ◌<◌, arith}
use Rattle.local_graph.proofs.NumberLemmas.{small_power}
use Rattle.local_graph.proofs.numbers.powers.Goals as goal

pub overflow_mul-powers : goal.overflow_mul-powers
overflow_mul-powers c =
    let so_far = c.loop-place.invariant in
    let before = c.loop-place.place - 1 in
    let lower : before < 32 = omega arith in
    omega (arith, so_far.below before (omega (arith, so_far.some)), small_power before lower)
