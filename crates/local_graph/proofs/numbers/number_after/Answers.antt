use Rattle.std.proofs.Common.{◌<◌, arith, ap}
use Rattle.local_graph.proofs.NumberLemmas.{small_power}
use Rattle.local_graph.proofs.numbers.number_after.Goals as goal

pub overflow_add-result : goal.overflow_add-result
overflow_add-result c =
    let inside : c.from.result < 32 = omega (arith, c.from.ensures, c.requires.follows.inside, ap (λ m. m.place) c.step.view_is) in
    omega (arith, c.requires.small, c.requires.powers c.from.result inside, small_power c.from.result inside)

pub overflow_mul-result : goal.overflow_mul-result
overflow_mul-result c =
    let inside : c.from.result < 32 = omega (arith, c.from.ensures, c.requires.follows.inside, ap (λ m. m.place) c.step.view_is) in
    omega (arith, c.requires.powers c.from.result inside, small_power c.from.result inside)

pub overflow_add-result-in-White : goal.overflow_add-result-in-White
overflow_add-result-in-White c =
    let inside : c.from.result < 32 = omega (arith, c.from.ensures, c.requires.follows.inside, ap (λ m. m.place) c.step.view_is) in
    omega (arith, c.requires.small, c.requires.powers c.from.result inside, small_power c.from.result inside)
