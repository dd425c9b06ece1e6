use Rattle.std.proofs.Common.{arith}
use Rattle.game_store.proofs.StoreLaws.{greatest_step}
use Rattle.game_store.proofs.bounds.greatest_floor.Goals as goal

pub loop-id-preserved : goal.loop-id-preserved
loop-id-preserved c = greatest_step c.args.slots.now c.args.ids.now c.loop-id.id-index _ c.read_floor.result _ c.loop-id.invariant c.loop-id-test.true c.read_floor.ensures (grind arith)
