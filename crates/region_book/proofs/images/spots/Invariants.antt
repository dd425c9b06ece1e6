use Rattle.std.proofs.Common.{◌≡◌, ℕ, ◌<◌, length, get_or}
use Rattle.region_book.specs.Image.{spot_of}
use Rattle.region_book.specs.declared.spots.Spot.{Spot}
use Rattle.region_book.proofs.images.spots.Given as goal

abbrev pub invariant-loop-place : goal.invariant-loop-place
invariant-loop-place l = record {
  long : length l.all.items ≡ l.place;
  each : (i : ℕ) (d : Spot) → i < l.place → get_or l.all.items i d ≡ spot_of l.region l.cells l.symmetry l.colours l.begin.column l.begin.row i;
}
