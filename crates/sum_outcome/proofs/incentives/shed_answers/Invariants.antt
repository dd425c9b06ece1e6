use Rattle.std.proofs.Common.{◌≡◌, length}
use Rattle.sum_outcome.specs.inner.Memo.{NoneIsNew}
use Rattle.sum_outcome.proofs.incentives.shed_answers.Given as goal

abbrev pub invariant-shedding : goal.invariant-shedding
invariant-shedding l = NoneIsNew l.fn.answers.entries l.answers.entries × (l.answers.cap ≡ l.fn.answers.cap)

abbrev pub decreases-shedding : goal.decreases-shedding
decreases-shedding l = length l.answers.entries
