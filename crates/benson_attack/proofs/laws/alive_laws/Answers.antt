use Rattle.benson_attack.proofs.AliveLemmas.{alive_stands}
use Rattle.benson_attack.proofs.laws.alive_laws.Goals as goal

pub returns : goal.returns
returns c = alive_stands
