use Rattle.sum_outcome.proofs.StopLoopLaws.{StoodSoFar}
use Rattle.sum_outcome.proofs.outcome.sign_by_stops.Given as goal

abbrev pub invariant-adding : goal.invariant-adding
invariant-adding l = StoodSoFar l.store l.sum l.fn.number l.low l.high l.numbers l.id-index
