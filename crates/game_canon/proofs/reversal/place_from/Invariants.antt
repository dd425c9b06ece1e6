use Rattle.std.proofs.Common.{◌-◌, length}
use Rattle.game_canon.proofs.reversal.place_from.Given as goal

abbrev pub decreases-below : goal.decreases-below
decreases-below l = length l.ids - l.place
