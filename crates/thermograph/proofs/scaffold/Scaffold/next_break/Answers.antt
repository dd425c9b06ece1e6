use Rattle.std.proofs.Common.{get_or, arith}
use Rattle.thermograph.proofs.ScaffoldLaws.{wall-read, clear-step}
use Rattle.thermograph.proofs.scaffold.Scaffold.next_break.Goals as goal

pub loop-id-preserved : goal.loop-id-preserved
loop-id-preserved c = (
  c.break_after-next.ensures.after,
  omega (arith, c.break_after-next.ensures.within, c.loop-id.invariant.1),
  clear-step c.args.self.now.walls.now c.args.self.now.ids.now c.args.start c.loop-id.next c.break_after-next.result c.loop-id.id-index c.deref.result.now c.loop-id-test.true c.loop-id.invariant.2 c.break_after-next.ensures.within c.break_after-next.ensures.clear
      (wall-read c.args.self.now.walls.now (get_or c.args.self.now.ids.now c.loop-id.id-index 0) c.index-self-id.result c.deref.result.now (c.requires.known.ids c.loop-id.id-index c.loop-id-test.true) c.deref.ensures.value),
)
