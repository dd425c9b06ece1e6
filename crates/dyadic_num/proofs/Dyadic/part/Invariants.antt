use Rattle.std.proofs.Common.{◌+◌, ◌-◌}
use Rattle.dyadic_num.proofs.FractionLemmas.{Scaled}
use Rattle.dyadic_num.proofs.Dyadic.part.Given as goal

abbrev pub invariant-scaling : goal.invariant-scaling
invariant-scaling l = Scaled l.numerator l.exponent l.units l.at

abbrev pub decreases-scaling : goal.decreases-scaling
decreases-scaling l = (l.at - 60) + (60 - l.at)
