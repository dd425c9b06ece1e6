use Rattle.thermograph.specs.inner.Scaffolds.{turned_wall, picked}
use Rattle.thermograph.proofs.ScaffoldLaws.{IsRun}
use Rattle.thermograph.proofs.scaffold.Scaffold.rise.Given as goal

abbrev pub invariant-loop-i : goal.invariant-loop-i
invariant-loop-i l = IsRun (turned_wall l.self.side l.t) (picked l.self.walls.now l.self.ids.now) l.i l.greatest
