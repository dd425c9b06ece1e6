use Rattle.cycle_solver.proofs.ChangeLaws.{NoOwnBefore}
use Rattle.cycle_solver.proofs.shared_games.edge_in.Given as goal

abbrev pub invariant-edges : goal.invariant-edges
invariant-edges l = NoOwnBefore l.region l.view l.edges l.colour l.point l.number
