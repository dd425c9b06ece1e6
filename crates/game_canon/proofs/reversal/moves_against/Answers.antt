use Rattle.game_canon.proofs.SideLaws.{not-covered}
use Rattle.game_canon.proofs.reversal.moves_against.Goals as goal

pub returns-in-Some : goal.returns-in-Some
returns-in-Some c = not-covered c.args.games.now.store.now c.args.games.now.unstored c.in-Some.form c.args.side c.far_of.result.now c.in-Some.is
    c.far_of.ensures
