use Rattle.game_calc.proofs.table.note_sum.Goals as goal

pub returns : goal.returns
returns c = λ x y. c.in_ok-insert.ensures.updates.0 (x, y)
