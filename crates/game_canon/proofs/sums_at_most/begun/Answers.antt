use Rattle.game_canon.proofs.SumMoveLaws.{begun_resisted}
use Rattle.game_canon.proofs.sums_at_most.begun.Goals as goal

pub returns-clause-resisted : goal.returns-clause-resisted
returns-clause-resisted c Ts = begun_resisted Ts c.args.pair
