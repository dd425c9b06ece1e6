use Rattle.std.proofs.Common.{◌∙◌, sym}
use Rattle.local_play.proofs.expansions.expand.Goals as goal

pub returns-clause-moves : goal.returns-clause-moves
returns-clause-moves g c cells long is = c.in_ok-list_moves.ensures.moves c.args.region.now.touch cells c.of.ensures.table (long ∙ sym c.of.ensures.full) is
