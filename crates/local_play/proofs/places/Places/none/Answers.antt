use Rattle.local_play.proofs.BitLemmas.{has_zero}
use Rattle.local_play.proofs.places.Places.none.Goals as goal

pub returns : goal.returns
returns c = has_zero
