use Rattle.std.proofs.Common.{◌≡◌, IfSome}
use Rattle.report.specs.TopStones.{IsBestBelow}
use Rattle.report.specs.inner.TopStones.{IsSmall}
use Rattle.report.proofs.top_stones.next_best.Given as goal

abbrev pub invariant-points : goal.invariant-points
invariant-points l =
    IsBestBelow l.fn.solved.state l.fn.komi_halves l.last l.number l.best × IfSome l.best IsSmall × (l.solved ≡ l.fn.solved)
