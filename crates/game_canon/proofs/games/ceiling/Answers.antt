use Rattle.dyadic_num.specs.declared.TheConstants.{EXPONENT}
use Rattle.short_games.specs.Threshold.{IsCeiling}
use Rattle.game_canon.proofs.GameLaws.{beside-is, of-beside, of-stored}
use Rattle.game_canon.proofs.games.ceiling.Goals as goal

pub returns-in-Some : goal.returns-in-Some
returns-in-Some c =
    let g = c.args.games.now in
    let form = c.in-Some.ensures.some in
    of-beside g.store.now g.unstored c.in-Some.form c.args.id (λ t. IsCeiling EXPONENT t c.in-Some.form.standing.now.ceiling) form.0 form.1 (beside-is g.store.now g.unstored c.in-Some.form form.0 c.requires.known.beside).ceiling_is

pub returns-in-None : goal.returns-in-None
returns-in-None c = of-stored c.args.games.now.store.now c.args.games.now.unstored c.args.id (λ t. IsCeiling EXPONENT t c.ceiling.result) c.in-None.ensures.none c.ceiling.ensures.ceiling
