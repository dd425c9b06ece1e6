use Rattle.std.proofs.Common.{arith}
use Rattle.local_play.proofs.SetLemmas.{no_first, first_is}
use Rattle.local_play.proofs.places.Places.first.Goals as goal

pub returns-then-bits-eq0 : goal.returns-then-bits-eq0
returns-then-bits-eq0 c = no_first c.args.self c.alone-bits.result c.alone-bits.ensures.is c.if-bits-eq0.true

pub returns : goal.returns
returns c = first_is c.args.self c.alone-bits.result c.alone-bits.ensures.is c.if-bits-eq0.false (omega (arith, c.alone-bits.ensures.small))
