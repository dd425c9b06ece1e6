use Rattle.std.proofs.Common.{◌≡◌, ℕ, ◌<◌, length, get_or}
use Rattle.drawings.proofs.regions.points_of.Given as goal

abbrev pub invariant-loop-number : goal.invariant-loop-number
invariant-loop-number l = record {
  long : length l.points.items ≡ l.number;
  each : (k : ℕ) → k < l.number → get_or l.points.items k 0 ≡ k;
}
