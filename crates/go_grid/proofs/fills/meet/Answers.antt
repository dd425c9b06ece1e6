use Rattle.go_grid.proofs.fills.meet.Goals as goal

pub returns-in-Some-clause-under_way : goal.returns-in-Some-clause-under_way
returns-in-Some-clause-under_way c columns start from done before j lf ld s =
    c.enter.ensures.under_way columns start from done before (j c.in-Some.p c.in-Some.is) lf ld s
