use Rattle.std.proofs.Common.{◌≡◌, ◌<◌, ◌*◌, take, map, All}
use Rattle.board_orders.specs.Handicaps.{place_point}
use Rattle.board_orders.proofs.handicap.fixed_points.Given as goal

abbrev pub invariant-places : goal.invariant-places
invariant-places l = (l.points.items ≡ map (place_point l.size.columns l.size.rows) (take l.at l.places)) × All (λ p. p < l.size.columns * l.size.rows) l.points.items
