use Rattle.game_canon.proofs.GameLaws.{stored-options, beside-options}
use Rattle.game_canon.proofs.games.right_options.Goals as goal

pub returns-in-Some : goal.returns-in-Some
returns-in-Some c = (c.in-Some.form.left.now, beside-options c.args.games.now.store.now c.args.games.now.unstored c.in-Some.form c.args.id c.in-Some.ensures.some.0 c.in-Some.ensures.some.1 c.requires.known.beside)

pub returns : goal.returns
returns c = (c.in-Options.left.now, stored-options c.args.games.now.store.now c.args.games.now.unstored c.args.id _ _ c.in_default.ensures.none c.in-Options.ensures.form)
