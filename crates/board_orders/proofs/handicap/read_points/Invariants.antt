use Rattle.std.proofs.Common.{drop, map}
use Rattle.board_orders.proofs.HandicapLemmas.{Reading}
use Rattle.board_orders.proofs.handicap.read_points.Given as goal

abbrev pub invariant-words : goal.invariant-words
invariant-words l = Reading l.size.columns l.size.rows (map (λ w. w.now) l.words) l.points.items (map (λ w. w.now) (drop l.at l.words))
