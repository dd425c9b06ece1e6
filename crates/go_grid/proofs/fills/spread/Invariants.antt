use Rattle.std.proofs.Common.{◌-◌}
use Rattle.go_grid.proofs.FillLemmas.{Spreading}
use Rattle.go_grid.proofs.fills.spread.Given as goal

abbrev pub invariant-spreading : goal.invariant-spreading
invariant-spreading l = Spreading l.size.columns l.within l.fn.start l.fn.work l.work l.done

abbrev pub decreases-spreading : goal.decreases-spreading
decreases-spreading l = 625 - l.done
