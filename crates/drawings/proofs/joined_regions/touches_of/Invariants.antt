use Rattle.std.proofs.Common.{◌≡◌, ℕ, ◌<◌, get_or, length}
use Rattle.go_grid.specs.Region.{AreLinks, touch_at}
use Rattle.drawings.proofs.joined_regions.touches_of.Given as goal

abbrev pub invariant-loop-place : goal.invariant-loop-place
invariant-loop-place l = record {
  long : length l.touch.items ≡ l.place;
  links : (i : ℕ) → i < l.place → AreLinks l.fn.size.columns l.points (get_or l.points i 0) (touch_at l.touch.items i);
}
