use Rattle.game_canon.proofs.ThresholdLaws.{GreatestSoFar}
use Rattle.game_canon.proofs.thresholds.greatest_floor.Given as goal

abbrev pub invariant-loop-id : goal.invariant-loop-id
invariant-loop-id l = GreatestSoFar l.store l.ids l.id-index l.greatest
