use Rattle.std.proofs.Common.{ℕ, ◌<◌}
use Rattle.sgf_go.specs.Territory.{IsMarkedTwice}
use Rattle.sgf_go.specs.inner.Territory.{marking}
use Rattle.sgf_go.proofs.territory.marked_twice.Given as goal

abbrev pub invariant-loop-number : goal.invariant-loop-number
invariant-loop-number l = (p : ℕ) → p < l.number → ¬ IsMarkedTwice (marking l.marks) p
