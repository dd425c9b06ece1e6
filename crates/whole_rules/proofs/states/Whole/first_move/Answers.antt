use Rattle.std.proofs.Common.{arith}
use Rattle.std.proofs.lemmas.Bool.{both_ways}
use Rattle.whole_rules.specs.declared.states.Move.TheVariants.{Stone, Spend, Half}
use Rattle.whole_rules.proofs.MoveLaws.{none_start, one_below, none_to_spend, none_to_half, first_is, first_none, same_length}
use Rattle.whole_rules.proofs.states.Whole.first_move.Goals as goal

pub loop-number-init : goal.loop-number-init
loop-number-init c = none_start c.args.self.now

pub returns-then-may_place : goal.returns-then-may_place
returns-then-may_place c =
    first_is c.args.self.now (Stone c.loop-number.number) c.loop-number.invariant (c.may_place.ensures.0 c.if-may_place.true)

pub loop-number-preserved : goal.loop-number-preserved
loop-number-preserved c =
    one_below c.args.self.now c.loop-number.number c.loop-number.invariant
    (omega (arith, c.size.ensures.most, c.size.ensures.area, c.area-number-end.ensures.value, c.loop-number-test.true))
    (λ h. both_ways _ c.if-may_place.false (c.may_place.ensures.1 h))

pub returns-then-may_spend : goal.returns-then-may_spend
returns-then-may_spend c =
    let e = same_length _ c.args.self.now c.self.view_is in
    first_is c.args.self.now Spend
    (none_to_spend c.args.self.now c.loop-number.number c.loop-number.invariant
    (omega (arith, e, c.size.ensures.area, c.area-number-end.ensures.value, c.loop-number-test.false)) (omega (arith, e, c.size.ensures.most)))
    (c.may_spend.ensures.0 c.if-may_spend.true)

pub returns-then-may_halve : goal.returns-then-may_halve
returns-then-may_halve c =
    let e = same_length _ c.args.self.now c.self.view_is in
    first_is c.args.self.now Half
    (none_to_half c.args.self.now
    (none_to_spend c.args.self.now c.loop-number.number c.loop-number.invariant
    (omega (arith, e, c.size.ensures.area, c.area-number-end.ensures.value, c.loop-number-test.false)) (omega (arith, e, c.size.ensures.most)))
    (omega (arith, e, c.size.ensures.most)) (λ h. both_ways _ c.if-may_spend.false (c.may_spend.ensures.1 h)))
    (c.may_halve.ensures.0 c.if-may_halve.true)

pub returns : goal.returns
returns c =
    let e = same_length _ c.args.self.now c.self.view_is in
    first_none c.args.self.now c.loop-number.number
    (omega (arith, e, c.size.ensures.area, c.area-number-end.ensures.value, c.loop-number-test.false)) (omega (arith, e, c.size.ensures.most))
    c.loop-number.invariant
    (λ h. both_ways _ c.if-may_spend.false (c.may_spend.ensures.1 h)) (λ h. both_ways _ c.if-may_halve.false (c.may_halve.ensures.1 h))
