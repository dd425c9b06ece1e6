use Rattle.std.proofs.Common.{◌≡◌, ℕ, ◌<◌, length, get_or}
use Rattle.local_graph.specs.declared.strong_components.Mark.TheVariants.{Told}
use Rattle.local_graph.specs.inner.Telling.{mark_at}
use Rattle.local_graph.proofs.strong_components.numbers_of.Given as goal

abbrev pub invariant-loop-mark : goal.invariant-loop-mark
invariant-loop-mark l = record {
  long : length l.numbers.items ≡ l.mark-index;
  told : (i n : ℕ) → i < l.mark-index → mark_at l.marks i ≡ Told n → get_or l.numbers.items i 0 ≡ n;
}
