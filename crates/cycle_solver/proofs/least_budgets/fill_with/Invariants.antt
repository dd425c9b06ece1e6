use Rattle.std.proofs.Common.{get_or}
use Rattle.cycle_solver.proofs.SumLaws.{SummedBelow}
use Rattle.cycle_solver.proofs.least_budgets.fill_with.Given as goal

abbrev pub invariant-regions : goal.invariant-regions
invariant-regions l = SummedBelow l.games l.places l.player (λ k. get_or l.budgets k 0) l.k l.sum
