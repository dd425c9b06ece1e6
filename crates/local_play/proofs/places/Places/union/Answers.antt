use Rattle.local_play.proofs.BitLemmas.{has_union, union_more}
use Rattle.local_play.proofs.places.Places.union.Goals as goal

pub returns-clause-either : goal.returns-clause-either
returns-clause-either c q = has_union c.args.self.0 c.args.other.0 q

pub returns-clause-more : goal.returns-clause-more
returns-clause-more c q = union_more c.args.self.0 c.args.other.0 q
