use Rattle.game_store.proofs.StoreLaws.{LeastSoFar}
use Rattle.game_store.proofs.bounds.least_ceiling.Given as goal

abbrev pub invariant-loop-id : goal.invariant-loop-id
invariant-loop-id l = LeastSoFar l.slots l.ids l.id-index l.least
