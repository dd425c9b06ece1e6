use Rattle.game_canon.proofs.ThresholdLaws.{least-step}
use Rattle.game_canon.proofs.thresholds.least_ceiling.Goals as goal

pub loop-id-preserved : goal.loop-id-preserved
loop-id-preserved c = least-step c.args.store.now c.args.ids.now c.loop-id.id-index c.loop-id.least _ _ c.loop-id.invariant c.ceiling.ensures.ceiling c.ceiling.ensures.range c.lesser.ensures.both c.lesser.ensures.small c.ceiling.ensures.stop
