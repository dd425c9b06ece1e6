use Rattle.cycle_solver.proofs.OneSumLaws.{AreSameBelow}
use Rattle.cycle_solver.proofs.one_sum.are_same_ids.Given as goal

abbrev pub invariant-places : goal.invariant-places
invariant-places l = AreSameBelow 0 l.a l.b l.place
