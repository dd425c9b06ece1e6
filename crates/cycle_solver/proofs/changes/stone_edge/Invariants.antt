use Rattle.cycle_solver.proofs.ChangeLaws.{NoEdgeIn}
use Rattle.cycle_solver.proofs.changes.stone_edge.Given as goal

abbrev pub invariant-regions : goal.invariant-regions
invariant-regions l = NoEdgeIn l.regions l.games l.places l.colour l.point l.k
