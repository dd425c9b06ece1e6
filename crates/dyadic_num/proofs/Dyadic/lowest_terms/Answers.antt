use Rattle.std.proofs.Common.{arith, inr, to_z, of_z, ◌≡◌, ◌-◌}
use Rattle.std.specs.Int.{w128}
use Rattle.std.proofs.lemmas.Int.{ints}
use Rattle.dyadic_num.proofs.FractionLemmas.{halving, lowest}
use Rattle.dyadic_num.proofs.Dyadic.lowest_terms.Goals as goal

pub returns-in_default : goal.returns-in_default
returns-in_default c = record { lowest = lowest c.args.self (to_z w128 c.halving.numerator-bits) c.halving.exponent c.halving.invariant (inr c.in_default.ensures) }

pub halving-preserved : goal.halving-preserved
halving-preserved c = (let p = c.in-Some.ensures in let half = to_z w128 (of_z w128 c.in-Some.half) in let same : half ≡ c.in-Some.half = omega (arith, ints, p) in
    halving c.args.self (to_z w128 c.halving.numerator-bits) half c.halving.exponent (c.halving.exponent - 1) (omega (arith, ints, p, same)) (omega (arith, c.halving-test.true)) c.halving.invariant)
