use Rattle.game_canon.proofs.ThresholdLaws.{LeastSoFar}
use Rattle.game_canon.proofs.thresholds.least_ceiling.Given as goal

abbrev pub invariant-loop-id : goal.invariant-loop-id
invariant-loop-id l = LeastSoFar l.store l.ids l.id-index l.least
