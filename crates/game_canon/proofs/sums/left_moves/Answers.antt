use Rattle.std.proofs.Common.{ap}
use Rattle.short_games.specs.Tree.{left}
use Rattle.game_canon.proofs.SumMoveLaws.{listed-moves}
use Rattle.game_canon.proofs.sums.left_moves.Goals as goal

pub returns-in-Options : goal.returns-in-Options
returns-in-Options c = let f = c.in-Options.ensures.form in listed-moves c.args.store.now left c.args.id c.in-Options.left.now f.left_below f.left_ascends f.no_number (ap left f.tree)
