use Rattle.std.proofs.Common.{drop}
use Rattle.board_orders.proofs.HandicapLemmas.{Putting}
use Rattle.board_orders.proofs.handicap.put_stones.Given as goal

abbrev pub invariant-stones : goal.invariant-stones
invariant-stones l = Putting l.board l.points l.held (drop l.at l.points)
