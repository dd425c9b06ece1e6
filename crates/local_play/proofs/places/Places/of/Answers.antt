use Rattle.local_play.proofs.BitLemmas.{has_shifted}
use Rattle.local_play.proofs.places.Places.of.Goals as goal

pub returns : goal.returns
returns c q = has_shifted c.args.place q c.requires
