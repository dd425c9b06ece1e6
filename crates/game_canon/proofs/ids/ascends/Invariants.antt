use Rattle.std.proofs.Common.{◌-◌, length}
use Rattle.game_canon.proofs.IdLaws.{IsRising}
use Rattle.game_canon.proofs.ids.ascends.Given as goal

abbrev pub invariant-places : goal.invariant-places
invariant-places l = IsRising l.ids l.place

abbrev pub decreases-places : goal.decreases-places
decreases-places l = length l.ids - l.place
