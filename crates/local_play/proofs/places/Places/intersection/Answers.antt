use Rattle.local_play.proofs.BitLemmas.{has_intersection}
use Rattle.local_play.proofs.places.Places.intersection.Goals as goal

pub returns : goal.returns
returns c q = has_intersection c.args.self.0 c.args.other.0 q
