use Rattle.std.proofs.Common.{◌≡◌, ℕ, ◌<◌, get_or, length}
use Rattle.endgame_solver.specs.inner.Views.{seen_ids}
use Rattle.endgame_solver.proofs.regions_of_play.opening_values.Given as goal

abbrev pub invariant-regions : goal.invariant-regions
invariant-regions l = record {
  long : length l.sum.items ≡ l.region;
  each : (k : ℕ) → k < l.region → get_or l.sum.items k 0 ≡ get_or (seen_ids l.book k) 0 0;
}
