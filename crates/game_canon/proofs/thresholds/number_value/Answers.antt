use Rattle.std.proofs.Common.{◌+ℤ◌, ◌<ℤ◌, pos, arith, refl, subst}
use Rattle.std.proofs.lemmas.Int.{ints}
use Rattle.dyadic_num.proofs.SimplestLemmas.{along}
use Rattle.short_games.specs.Threshold.{IsFloor, IsCeiling}
use Rattle.game_store.specs.Meaning.{listed}
use Rattle.game_store.proofs.StoreLaws.{at_most}
use Rattle.game_canon.specs.inner.Bounds.{lower, upper}
use Rattle.game_canon.proofs.SimplestNumberLaws.{no-number-fits, floor-there, ceiling-there, worth}
use Rattle.game_canon.proofs.thresholds.number_value.Goals as goal

pub returns-then-le : goal.returns-then-le
returns-then-le c =
    let G = listed c.args.store.now c.args.left.now c.args.right.now in
    let no_room : (lower c.greatest_floor.result +ℤ pos 1) <ℤ upper c.least_ceiling.result → ⊥
    = λ l. (let p = (at_most c.just_below-floor.result c.low_end-low.result c.le.result c.le.ensures).0 c.if-le.true in omega (arith, ints, l, p, c.just_below-floor.ensures, c.low_end-low.ensures, c.high_end-high.ensures)) in (
      no-number-fits c.args.store.now c.args.left.now c.args.right.now c.greatest_floor.result c.least_ceiling.result c.greatest_floor.ensures.bound c.least_ceiling.ensures.bound c.greatest_floor.ensures.small c.least_ceiling.ensures.small c.greatest_floor.ensures.near c.least_ceiling.ensures.near no_room,
      subst (IsFloor 60 G) (omega (arith, ints, c.just_below-floor.ensures, c.high_end-high.ensures)) (floor-there c.args.store.now c.args.left.now c.args.right.now c.greatest_floor.result c.least_ceiling.result c.greatest_floor.ensures.bound c.least_ceiling.ensures.bound c.greatest_floor.ensures.small c.least_ceiling.ensures.small c.greatest_floor.ensures.near c.least_ceiling.ensures.near no_room),
      subst (IsCeiling 60 G) (omega (arith, ints, c.just_above-ceiling.ensures, c.low_end-low.ensures)) (ceiling-there c.args.store.now c.args.left.now c.args.right.now c.greatest_floor.result c.least_ceiling.result c.greatest_floor.ensures.bound c.least_ceiling.ensures.bound c.greatest_floor.ensures.small c.least_ceiling.ensures.small c.greatest_floor.ensures.near c.least_ceiling.ensures.near no_room),
    )

pub returns : goal.returns
returns c =
    worth c.args.store.now c.args.left.now c.args.right.now c.greatest_floor.result c.least_ceiling.result c.greatest_floor.ensures.bound c.least_ceiling.ensures.bound c.greatest_floor.ensures.small c.least_ceiling.ensures.small c.greatest_floor.ensures.near c.least_ceiling.ensures.near
    _ c.number_at.result
    (along 61 _ _ _ _ _ _ c.low_end-low.ensures c.high_end-high.ensures refl c.simplest_between.ensures)
    c.number_at.ensures
