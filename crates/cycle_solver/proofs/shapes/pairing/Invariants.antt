use Rattle.std.proofs.Common.{◌<◌, ◌≡◌, get_or}
use Rattle.endgame_solver.proofs.SharingLaws.{Filled}
use Rattle.cycle_solver.proofs.shapes.pairing.Given as goal

abbrev pub invariant-places : goal.invariant-places
invariant-places l = Filled (λ j n. (n < l.fn.count) × (get_or l.turn.places n 0 ≡ get_or l.first.places j 0)) l.place l.places
