use Rattle.std.proofs.Common.{ℕ, ◌<◌, ◌≤◌, ◌≡◌, get_or}
use Rattle.go_grid.specs.Parts.{label}
use Rattle.go_grid.proofs.parts.put_label.Given as goal

abbrev pub invariant-loop-index : goal.invariant-loop-index
invariant-loop-index l = record {
  put : (i : ℕ) → l.fn.from ≤ i → i < l.index → label l.labels (get_or l.work.points i 0) ≡ l.part;
  other : (p : ℕ) → ((i : ℕ) → l.fn.from ≤ i → i < l.index → i < l.work.count → ¬ (get_or l.work.points i 0 ≡ p)) → label l.labels p ≡ label l.fn.labels p;
}
