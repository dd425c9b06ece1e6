use Rattle.go_grid.proofs.FillLemmas.{FillingAll}
use Rattle.go_grid.proofs.fills.fill_all.Given as goal

abbrev pub invariant-loop-number : goal.invariant-loop-number
invariant-loop-number l = FillingAll l.size.columns l.within l.starts l.work l.number
