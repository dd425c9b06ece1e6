use Rattle.std.proofs.Common.{◌≡◌}
use Rattle.endgame_solver.proofs.SharingLaws.{Filled}
use Rattle.endgame_solver.proofs.view_book.own_places.Given as goal

abbrev pub invariant-places : goal.invariant-places
invariant-places l = Filled (λ i n. n ≡ i) l.place l.places
