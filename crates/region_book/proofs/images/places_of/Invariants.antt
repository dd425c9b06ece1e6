use Rattle.region_book.proofs.PlacesLaws.{Placing}
use Rattle.region_book.proofs.images.places_of.Given as goal

abbrev pub invariant-loop-place : goal.invariant-loop-place
invariant-loop-place l = Placing l.region l.cells l.image.symmetry l.image.colours l.image.begin.column l.image.begin.row l.image.spots.items l.place l.all
