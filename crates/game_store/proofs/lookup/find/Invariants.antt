use Rattle.game_store.specs.Forms.{wanted}
use Rattle.game_store.specs.inner.Chain.{IsAt, place}
use Rattle.game_store.proofs.lookup.find.Given as goal

abbrev pub invariant-loop-at : goal.invariant-loop-at
invariant-loop-at l = IsAt l.pool.lists l.slots (wanted l.form) l.at

abbrev pub decreases-loop-at : goal.decreases-loop-at
decreases-loop-at l = place l.at
