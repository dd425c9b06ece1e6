use Rattle.std.proofs.Common.{arith}
use Rattle.local_graph.proofs.ReturnLemmas.{looked_more, not_there}
use Rattle.local_graph.proofs.soonest_cycles.is_on.Goals as goal

pub looking-preserved : goal.looking-preserved
looking-preserved c = looked_more _ _ _ c.looking.invariant c.looking-test.true c.if-frame-node.false

pub returns : goal.returns
returns c = (λ t. absurd (cc), λ h. absurd (not_there _ _ (λ i lt. c.looking.invariant i (omega arith)) h))
