use Rattle.std.proofs.Common.{◌≡◌, ◌^◌, ◌<◌, ◌≤◌, ℕ, length, get_or}
use Rattle.local_graph.proofs.numbers.powers.Given as goal

abbrev pub invariant-loop-place : goal.invariant-loop-place
invariant-loop-place l = record {
  some : 1 ≤ l.place;
  long : length l.powers ≡ 32;
  below : (p : ℕ) → p < l.place → get_or l.powers p 0 ≡ 3 ^ p;
}
