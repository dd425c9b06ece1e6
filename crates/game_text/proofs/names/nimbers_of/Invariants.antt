use Rattle.game_text.specs.inner.Written.{AreFound}
use Rattle.game_text.proofs.names.nimbers_of.Given as goal

abbrev pub invariant-loop-id : goal.invariant-loop-id
invariant-loop-id l = AreFound l.store l.ids l.id-index l.found.items
