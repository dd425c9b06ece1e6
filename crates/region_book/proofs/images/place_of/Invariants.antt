use Rattle.std.proofs.Common.{ℕ, ◌<◌, ◌≢◌, get_or}
use Rattle.region_book.specs.declared.spots.Spot.{Spot}
use Rattle.region_book.proofs.images.place_of.Given as goal

abbrev pub invariant-loop-place : goal.invariant-loop-place
invariant-loop-place l = (k : ℕ) (d : Spot) → k < l.place → get_or l.spots k d ≢ l.spot
