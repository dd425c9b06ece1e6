use Rattle.game_canon.proofs.PartLaws.{parts-one}
use Rattle.game_canon.proofs.followers.parts.Goals as goal

pub returns : goal.returns
returns c = parts-one c.args.store.now c.args.a _ (rw c.in-Some.is at c.in_ok-count.ensures.count)
