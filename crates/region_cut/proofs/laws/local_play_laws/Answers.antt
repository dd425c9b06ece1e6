use Rattle.region_cut.proofs.LocalBoardLemmas.{plays_locally}
use Rattle.region_cut.proofs.laws.local_play_laws.Goals as goal

pub returns : goal.returns
returns c = plays_locally
