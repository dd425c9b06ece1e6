use Rattle.local_value.proofs.UndominatedLemmas.{AreKept}
use Rattle.local_value.proofs.undominated.without_dominated.Given as goal

abbrev pub invariant-loop-option : goal.invariant-loop-option
invariant-loop-option l = AreKept l.store l.options l.leaders.black l.leaders.white l.option-index l.kept.items
