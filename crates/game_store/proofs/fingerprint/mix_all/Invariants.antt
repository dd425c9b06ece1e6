use Rattle.std.proofs.Common.{◌≡◌, take, fold}
use Rattle.game_store.specs.inner.Chain.{mix}
use Rattle.game_store.proofs.fingerprint.mix_all.Given as goal

abbrev pub invariant-loop-id : goal.invariant-loop-id
invariant-loop-id l = l.hash ≡ fold mix l.fn.start (take l.id-index l.ids)
