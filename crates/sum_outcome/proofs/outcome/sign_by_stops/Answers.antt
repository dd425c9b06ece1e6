use Rattle.std.proofs.Common.{arith, rules, refl, ◌+ℤ◌, ◌<◌, length}
use mir.Val.{to_z}
use mir.Syntax.{w128}
use Rattle.std.proofs.lemmas.Int.{to_z-of_z}
use Rattle.sum_outcome.proofs.StopLoopLaws.{small_fits, stood_start, low_fits, high_fits, stood_step, stood_above, stood_below, stood_equal}
use Rattle.sum_outcome.proofs.outcome.sign_by_stops.Goals as goal

pub adding-init : goal.adding-init
adding-init c =
    let a = c.units-low.ensures in
    let b = c.units-high.ensures in
    rw (to_z-of_z w128 c.units-low.result (small_fits c.units-low.result (rw a.count a.bounds)), a.count)
    (rw (to_z-of_z w128 c.units-high.result (small_fits c.units-high.result (rw b.count b.bounds)), b.count) (stood_start c.args.store.now c.args.sum.now c.args.number c.requires.bounds))

pub adding-preserved : goal.adding-preserved
adding-preserved c =
    let u = c.units-low-in-adding in
    let v = c.units-high-in-adding in
    let low = to_z w128 c.adding.low-bits in
    let high = to_z w128 c.adding.high-bits in
    let lt : c.adding.id-index < length c.args.sum.now = omega (arith, c.adding-test.true) in
    rw (to_z-of_z w128 u.result (small_fits u.result (rw u.ensures.count u.ensures.bounds)), u.ensures.count)
    (rw (to_z-of_z w128 v.result (small_fits v.result (rw v.ensures.count v.ensures.bounds)), v.ensures.count)
    (rw (to_z-of_z w128 (low +ℤ c.right_stop.result) (low_fits c.args.store.now c.args.sum.now c.args.number low high c.adding.numbers c.adding.id-index c.adding.invariant lt c.right_stop.result c.right_stop.ensures))
    (rw (to_z-of_z w128 (high +ℤ c.left_stop.result) (high_fits c.args.store.now c.args.sum.now c.args.number low high c.adding.numbers c.adding.id-index c.adding.invariant lt c.left_stop.result c.left_stop.ensures))
    (stood_step c.args.store.now c.args.sum.now c.args.number low high c.adding.numbers c.adding.id-index c.adding.invariant lt c.right_stop.result c.left_stop.result _ c.is_number-numbers.result c.right_stop.ensures c.left_stop.ensures c.is_number-numbers.ensures.number c.is_number-numbers.ensures.canonical refl))))

pub returns-then-low-gt0 : goal.returns-then-low-gt0
returns-then-low-gt0 c = stood_above c.args.store.now c.args.sum.now c.args.number (to_z w128 c.adding.low-bits) (to_z w128 c.adding.high-bits) c.adding.numbers c.adding.id-index c.adding.invariant (omega (arith, c.adding-test.false)) (search rules)

pub returns-then-high-lt0 : goal.returns-then-high-lt0
returns-then-high-lt0 c = stood_below c.args.store.now c.args.sum.now c.args.number (to_z w128 c.adding.low-bits) (to_z w128 c.adding.high-bits) c.adding.numbers c.adding.id-index c.adding.invariant (omega (arith, c.adding-test.false)) (search rules)

pub returns-then-numbers : goal.returns-then-numbers
returns-then-numbers c = stood_equal c.args.store.now c.args.sum.now c.args.number (to_z w128 c.adding.low-bits) (to_z w128 c.adding.high-bits) c.adding.numbers c.adding.id-index c.adding.invariant (omega (arith, c.adding-test.false)) (search rules) (search rules) c.if-numbers.true
