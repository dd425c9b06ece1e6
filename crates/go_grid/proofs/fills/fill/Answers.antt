use Rattle.go_grid.proofs.FillLemmas.{part_marks}
use Rattle.go_grid.proofs.fills.fill.Goals as goal

pub spread-requires-clause-fresh : goal.spread-requires-clause-fresh
spread-requires-clause-fresh c m = (c.idle-work.ensures.empty c.args.start).0 m

pub spread-requires-clause-filled : goal.spread-requires-clause-filled
spread-requires-clause-filled c = c.idle-work.ensures.filled _ _

pub returns : goal.returns
returns c = part_marks _ _ _ c.idle-work.result c.spread.new.work c.idle-work.ensures.empty c.spread.ensures.met
