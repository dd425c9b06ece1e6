use Rattle.std.proofs.Common.{arith}
use Rattle.local_play.proofs.BitLemmas.{has_without, without_less}
use Rattle.local_play.proofs.places.Places.without.Goals as goal

pub returns-clause-rest : goal.returns-clause-rest
returns-clause-rest c q = has_without c.args.self.0 c.args.other.0 q (omega arith) (omega arith)

pub returns-clause-less : goal.returns-clause-less
returns-clause-less c q = without_less c.args.self.0 c.args.other.0 q (omega arith) (omega arith)
