use Rattle.benson_life.proofs.StandLemmas.{healthy_stands}
use Rattle.benson_life.proofs.laws.benson_laws.Goals as goal

pub returns : goal.returns
returns c = healthy_stands
