use Rattle.std.proofs.Common.{get_or, []}
use Rattle.cycle_solver.specs.inner.Shared.{AreNotedIn}
use Rattle.cycle_solver.proofs.NoteLaws.{NotedBelow}
use Rattle.cycle_solver.proofs.negatives.note_values.Given as goal

abbrev pub invariant-budgets : goal.invariant-budgets
invariant-budgets l = NotedBelow (λ known j. AreNotedIn known (get_or l.values j [])) l.initial.known l.initial.store l.known l.store l.budget
