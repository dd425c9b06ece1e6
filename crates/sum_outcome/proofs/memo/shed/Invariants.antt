use Rattle.std.proofs.Common.{◌≡◌, length}
use Rattle.sum_outcome.specs.inner.Memo.{NoneIsNew}
use Rattle.sum_outcome.proofs.memo.shed.Given as goal

abbrev pub invariant-shedding : goal.invariant-shedding
invariant-shedding l = NoneIsNew l.fn.sums.entries l.sums.entries × (l.sums.cap ≡ l.fn.sums.cap)

abbrev pub decreases-shedding : goal.decreases-shedding
decreases-shedding l = length l.sums.entries
