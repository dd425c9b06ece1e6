use Rattle.std.proofs.Common.{arith}
use Rattle.game_store.proofs.StoreLaws.{least_step}
use Rattle.game_store.proofs.bounds.least_ceiling.Goals as goal

pub loop-id-preserved : goal.loop-id-preserved
loop-id-preserved c = least_step c.args.slots.now c.args.ids.now c.loop-id.id-index _ c.read_ceiling.result _ c.loop-id.invariant c.loop-id-test.true c.read_ceiling.ensures (grind arith)
