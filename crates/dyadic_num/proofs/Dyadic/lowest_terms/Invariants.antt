use Rattle.dyadic_num.specs.Units.{IsFraction}
use Rattle.dyadic_num.proofs.Dyadic.lowest_terms.Given as goal

abbrev pub invariant-halving : goal.invariant-halving
invariant-halving l = IsFraction l.fn.self l.numerator l.exponent

abbrev pub decreases-halving : goal.decreases-halving
decreases-halving l = l.exponent
