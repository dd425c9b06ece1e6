use Rattle.endgame_solver.proofs.WinningLaws.{NoneIn}
use Rattle.endgame_solver.proofs.winning_moves.stone_edge.Given as goal

abbrev pub invariant-regions : goal.invariant-regions
invariant-regions l = NoneIn l.regions l.book l.places l.colour l.point l.k
