use Rattle.std.proofs.Common.{◌≡◌, ℕ, ◌<◌, get_or}
use Rattle.drawings.proofs.joined_regions.place_of.Given as goal

abbrev pub invariant-seeking : goal.invariant-seeking
invariant-seeking l = record {
  place : l.place ≡ l.candidate-index;
  none : (k : ℕ) → k < l.candidate-index → ¬ (get_or l.points k 0 ≡ l.wanted);
}
