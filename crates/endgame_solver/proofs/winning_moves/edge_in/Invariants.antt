use Rattle.endgame_solver.proofs.WinningLaws.{NoneBefore}
use Rattle.endgame_solver.proofs.winning_moves.edge_in.Given as goal

abbrev pub invariant-edges : goal.invariant-edges
invariant-edges l = NoneBefore l.region l.view l.edges l.colour l.point l.number
