use Rattle.std.proofs.Common.{rules, arith, to_z, of_z, ◌≡◌, ◌-◌, ◌+◌}
use Rattle.std.specs.Int.{w128}
use Rattle.std.proofs.lemmas.Int.{ints, to_z-of_z}
use Rattle.dyadic_num.proofs.FractionLemmas.{scaled-halved, scaled-doubled, scaled-along, too_fine, too_great}
use Rattle.dyadic_num.proofs.Dyadic.part.Goals as goal

pub returns-in_err-units : goal.returns-in_err-units
returns-in_err-units c = (let s = scaled-along _ c.args.numerator _ _ _ (to_z-of_z w128 c.args.numerator c.ranges.numerator) c.scaling.invariant in
    let none = too_fine _ _ _ _ c.if-at-gt-EXPONENT.true c.in_err-units.ensures s in search rules)

pub scaling-preserved-then-at-gt-EXPONENT : goal.scaling-preserved-then-at-gt-EXPONENT
scaling-preserved-then-at-gt-EXPONENT c = (let p = c.in_ok-units.ensures in
    scaled-halved _ _ (to_z w128 c.scaling.units-bits) (to_z w128 (of_z w128 c.in_ok-units.units)) c.scaling.at (c.scaling.at - 1) (omega (arith, ints, p)) (omega (arith, c.if-at-gt-EXPONENT.true)) c.scaling.invariant)

pub returns-in_err-units-2 : goal.returns-in_err-units-2
returns-in_err-units-2 c = (let s = scaled-along _ c.args.numerator _ _ _ (to_z-of_z w128 c.args.numerator c.ranges.numerator) c.scaling.invariant in
    let none = too_great _ _ _ _ (omega (arith, c.if-at-gt-EXPONENT.false)) c.in_err-units-2.ensures s in search rules)

pub scaling-preserved : goal.scaling-preserved
scaling-preserved c = (let p = c.in_ok-units-2.ensures in let q : c.units.inside.units ≡ c.in_ok-units-2.field-0 = c.units.view_is in
    scaled-doubled _ _ (to_z w128 c.scaling.units-bits) _ c.scaling.at (c.scaling.at + 1) (omega (arith, ints, p, q, c.units.invariant)) (omega arith) c.scaling.invariant)
