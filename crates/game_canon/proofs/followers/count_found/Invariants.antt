use Rattle.std.proofs.Common.{◌-◌, length}
use Rattle.game_store.specs.Meaning.{listed}
use Rattle.game_canon.proofs.PartLaws.{IsFollowing}
use Rattle.game_canon.proofs.followers.count_found.Given as goal

abbrev pub invariant-following : goal.invariant-following
invariant-following l = IsFollowing l.store (listed l.store l.left l.right) l.found.keys l.place

abbrev pub decreases-following : goal.decreases-following
decreases-following l = length l.store - l.place
