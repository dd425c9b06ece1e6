use Rattle.std.proofs.Common.{◌∙◌, sym}
use Rattle.std.proofs.lemmas.Bool.{both_ways}
use Rattle.cycle_solver.proofs.OneSumLaws.{one_decides, one_here}
use Rattle.cycle_solver.proofs.asking.winner_of.Goals as goal

pub returns-then-are_same_ids-clause-winner : goal.returns-then-are_same_ids-clause-winner
returns-then-are_same_ids-clause-winner c =
    let held = c.requires.low.0 in
    let same = sym c.wins.ensures.same ∙ c.are_same_ids.ensures c.if-are_same_ids.true in
    one_decides held.solved held.at (one_here c.requires.low.1 c.requires.high.1 same)
    (λ w. both_ways c.wins.result c.if-wins.false (c.wins.ensures.wins.1 w))
