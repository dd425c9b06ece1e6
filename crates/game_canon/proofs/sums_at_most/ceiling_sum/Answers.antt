use Rattle.game_canon.proofs.sums_at_most.ceiling_sum.Goals as goal

pub returns : goal.returns
returns c = (c.ceiling.result, c.ceiling-2.result, c.ceiling.ensures.ceiling, c.ceiling-2.ensures.ceiling, c.plus.ensures)
