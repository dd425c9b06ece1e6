use Rattle.cycle_solver.proofs.keeping_moves.move_keeps.Goals as goal

pub returns-in-None-clause-keeps : goal.returns-in-None-clause-keeps
returns-in-None-clause-keeps c = (λ e. absurd cc, λ (t, cs, keeps). absurd (c.in-None.ensures (t, keeps.moved)))

pub change_keeps-requires-clause-change : goal.change_keeps-requires-clause-change
change_keeps-requires-clause-change c = (c.args.chosen, c.in-Some.ensures)

pub returns-in-Some-clause-keeps : goal.returns-in-Some-clause-keeps
returns-in-Some-clause-keeps c = c.change_keeps.ensures.keeps c.args.chosen c.in-Some.ensures
