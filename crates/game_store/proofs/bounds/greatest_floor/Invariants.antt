use Rattle.game_store.proofs.StoreLaws.{GreatestSoFar}
use Rattle.game_store.proofs.bounds.greatest_floor.Given as goal

abbrev pub invariant-loop-id : goal.invariant-loop-id
invariant-loop-id l = GreatestSoFar l.slots l.ids l.id-index l.greatest
