use Rattle.game_canon.proofs.sums_at_most.floor_sum.Goals as goal

pub returns : goal.returns
returns c = (c.floor.result, c.floor-2.result, c.floor.ensures.floor, c.floor-2.ensures.floor, c.plus.ensures)
