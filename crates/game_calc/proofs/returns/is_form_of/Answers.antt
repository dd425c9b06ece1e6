use Rattle.game_calc.proofs.ReturnSteps.{returned-equal}
use Rattle.game_calc.proofs.returns.is_form_of.Goals as goal

pub returns-in-Options : goal.returns-in-Options
returns-in-Options c = λ t. returned-equal c.args.store.now c.args.left.now c.args.right.now c.in-Options.its_left.now c.in-Options.its_right.now c.args.x c.in-Options.ensures.form (c.returns_to.ensures t)
