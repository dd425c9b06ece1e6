use Rattle.cycle_solver.proofs.OneSumLaws.{one_after, one_here}
use Rattle.cycle_solver.proofs.one_sum.is_one_behind.Goals as goal

pub returns-then-are_same_ids : goal.returns-then-are_same_ids
returns-then-are_same_ids c = λ h.
    let held = c.requires.low.0 in
    one_after _ held.at.many held.solved.many c.args.change.stone c.requires.change.1.known
    (one_here c.requires.low.1 c.requires.high.1 (c.are_same_ids.ensures c.if-are_same_ids.true)) (c.has_one_value.ensures h)
