use Rattle.std.proofs.Common.{◌≡◌, ℕ, ◌*◌, ◌<◌, length}
use Rattle.go_grid.specs.Board.{AreNear}
use Rattle.go_grid.specs.Region.{touch_at}
use Rattle.drawings.proofs.regions.touches_of.Given as goal

abbrev pub invariant-loop-number : goal.invariant-loop-number
invariant-loop-number l = record {
  long : length l.touch.items ≡ l.number;
  near : (k : ℕ) → k < l.number → AreNear l.fn.size.columns (l.fn.size.columns * l.fn.size.rows) k (touch_at l.touch.items k).up
      (touch_at l.touch.items k).left (touch_at l.touch.items k).right (touch_at l.touch.items k).down;
}
