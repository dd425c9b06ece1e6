use Rattle.endgame_solver.proofs.MarginLaws.{StopsSoFar}
use Rattle.endgame_solver.proofs.thresholds.stops_of.Given as goal

abbrev pub invariant-adding : goal.invariant-adding
invariant-adding l = StopsSoFar l.store l.sum l.stops l.id-index
