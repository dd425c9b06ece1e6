use Rattle.sum_outcome.proofs.OppositeLaws.{taken_out}
use Rattle.sum_outcome.proofs.opposites.opposites_laws.Goals as goal

pub returns : goal.returns
returns c = taken_out
