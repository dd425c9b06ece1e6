use Rattle.std.proofs.Common.{ℕ, ◌<◌, ◌≡◌, get_or}
use Rattle.cycle_solver.specs.declared.asked.Answered.{Answered}
use Rattle.cycle_solver.specs.inner.Asked.{IsOn}
use Rattle.cycle_solver.proofs.asked.known_margin.Given as goal

abbrev pub invariant-answers : goal.invariant-answers
invariant-answers l = (j : ℕ) (a : Answered) → j < l.answer-index → get_or l.answered j a ≡ a → ¬ IsOn l.before l.after l.purses a
