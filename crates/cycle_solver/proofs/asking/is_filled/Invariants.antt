use Rattle.cycle_solver.proofs.SumLaws.{SummedBelow}
use Rattle.cycle_solver.proofs.asking.is_filled.Given as goal

abbrev pub invariant-regions : goal.invariant-regions
invariant-regions l = SummedBelow l.games l.places l.player (λ k. l.budget) l.k l.sum
