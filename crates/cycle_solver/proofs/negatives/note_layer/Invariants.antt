use Rattle.std.proofs.Common.{get_or}
use Rattle.cycle_solver.specs.inner.Shared.{IsNoted}
use Rattle.cycle_solver.proofs.NoteLaws.{NotedBelow}
use Rattle.cycle_solver.proofs.negatives.note_layer.Given as goal

abbrev pub invariant-ids : goal.invariant-ids
invariant-ids l = NotedBelow (λ known i. IsNoted known (get_or l.ids i 0)) l.initial.known l.initial.store l.known l.store l.id-index
