use Rattle.std.proofs.Common.{rules}
use Rattle.std.proofs.lemmas.Bool.{both_ways}
use Rattle.std.proofs.lemmas.List.{take_all}
use Rattle.local_graph.proofs.ReturnLemmas.{apart_more}
use Rattle.local_graph.proofs.soonest_cycles.are_apart.Goals as goal

pub comparing-preserved : goal.comparing-preserved
comparing-preserved c =
    apart_more _ _ c.comparing.invariant c.comparing-test.true (λ h. both_ways _ c.if-is_on.false (c.is_on.ensures.1 h))

pub returns : goal.returns
returns c = search (rules, take_all)
