use Rattle.std.proofs.Common.{ap}
use Rattle.short_games.specs.Tree.{right}
use Rattle.game_canon.proofs.SumMoveLaws.{listed-moves}
use Rattle.game_canon.proofs.sums.right_moves.Goals as goal

pub returns-in-Options : goal.returns-in-Options
returns-in-Options c = let f = c.in-Options.ensures.form in listed-moves c.args.store.now right c.args.id c.in-Options.right.now f.right_below f.right_ascends f.no_number (ap right f.tree)
