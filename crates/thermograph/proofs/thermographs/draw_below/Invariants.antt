use Rattle.thermograph.specs.inner.Drawings.{AreDrawn}
use Rattle.thermograph.proofs.thermographs.draw_below.Given as goal

abbrev pub invariant-loop-place : goal.invariant-loop-place
invariant-loop-place l = AreDrawn l.store l.flags l.place l.walls.left.items l.walls.right.items
