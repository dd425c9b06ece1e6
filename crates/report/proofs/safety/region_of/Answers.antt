use Rattle.benson_life.proofs.WallLemmas.{counted_lacks}
use Rattle.report.proofs.SafetyLaws.{region_lists}
use Rattle.report.proofs.safety.region_of.Goals as goal

pub returns : goal.returns
returns c =
    region_lists c.args.board.now c.args.colour c.size-size.result.columns c.args.point c.lacking.result c.fill.result c.in_ok-region.region.items
    c.size-size.ensures.columns c.lacking.ensures c.fill.ensures c.in_ok-region.ensures

pub fill-requires-clause-starts : goal.fill-requires-clause-starts
fill-requires-clause-starts c =
    (c.lacking.ensures c.args.point).1
    (counted_lacks c.args.board.now c.requires.settled.closed c.args.colour c.args.point c.requires.counted)
