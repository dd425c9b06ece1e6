use Rattle.std.proofs.Common.{◌≡◌, ℕ, ◌<◌, get_or, length}
use Rattle.go_grid.specs.Region.{touch_at}
use Rattle.region_cut.specs.inner.Places.{IsTouch}
use Rattle.region_cut.proofs.region_touches.touches_of.Given as goal

abbrev pub invariant-touching : goal.invariant-touching
invariant-touching l = record {
  long : length l.found.items ≡ l.point-index;
  each : (i : ℕ) → i < l.point-index
      → IsTouch l.size.columns l.points l.black l.white (get_or l.points i 0) (touch_at l.found.items i);
}
