use Rattle.game_canon.proofs.ReachableLaws.{joined-start, joined-step}
use Rattle.game_canon.proofs.reachable_forms.add_ids.Goals as goal

pub loop-id-init : goal.loop-id-init
loop-id-init c = joined-start c.args.ids.now.items c.args.others.now c.requires

pub loop-id-preserved : goal.loop-id-preserved
loop-id-preserved c = joined-step c.args.ids.now.items c.args.others.now c.loop-id.ids.items c.put_in.new.ids.items c.loop-id.id-index c.loop-id.invariant c.loop-id-test.true c.in_ok-put_in.ensures
