use Rattle.std.proofs.Common.{◌-◌}
use Rattle.game_canon.proofs.IdLaws.{IsSearching}
use Rattle.game_canon.proofs.ids.place_of.Given as goal

abbrev pub invariant-halving : goal.invariant-halving
invariant-halving l = IsSearching l.ids l.id l.low l.high

abbrev pub decreases-halving : goal.decreases-halving
decreases-halving l = l.high - l.low
