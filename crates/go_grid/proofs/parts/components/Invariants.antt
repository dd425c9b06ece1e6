use Rattle.go_grid.proofs.PartsLemmas.{PartsBelow}
use Rattle.go_grid.proofs.parts.components.Given as goal

abbrev pub invariant-loop-number : goal.invariant-loop-number
invariant-loop-number l = PartsBelow l.size.columns l.within l.labels l.work l.number
