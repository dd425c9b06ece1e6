use Rattle.std.proofs.Common.{refl}
use Rattle.dyadic_num.proofs.Dyadic.exponent.Goals as goal

pub returns-clause-most : goal.returns-clause-most
returns-clause-most c = c.lowest_terms-numerator.ensures.lowest.lowest c.args.self 60 refl
