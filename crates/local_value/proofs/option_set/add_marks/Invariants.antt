use Rattle.std.proofs.Common.{ℕ, ◌+◌, ◌-◌, ◌≡◌, get_or, length}
use Rattle.local_value.proofs.option_set.add_marks.Given as goal

abbrev pub invariant-growing : goal.invariant-growing
invariant-growing l = (n : ℕ) → get_or l.marks.items n 0 ≡ get_or l.fn.marks.items n 0

abbrev pub decreases-growing : goal.decreases-growing
decreases-growing l = (l.option + 1) - length l.marks.items
