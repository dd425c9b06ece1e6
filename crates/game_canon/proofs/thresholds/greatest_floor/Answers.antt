use Rattle.game_canon.proofs.ThresholdLaws.{greatest-step}
use Rattle.game_canon.proofs.thresholds.greatest_floor.Goals as goal

pub loop-id-preserved : goal.loop-id-preserved
loop-id-preserved c = greatest-step c.args.store.now c.args.ids.now c.loop-id.id-index c.loop-id.greatest _ _ c.loop-id.invariant c.floor.ensures.floor c.floor.ensures.range c.greater.ensures.both c.greater.ensures.small c.floor.ensures.stop
