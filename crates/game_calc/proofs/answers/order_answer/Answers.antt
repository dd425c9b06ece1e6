use Rattle.game_calc.proofs.AnswerSteps.{order-answered}
use Rattle.game_calc.proofs.answers.order_answer.Goals as goal

pub returns-in_ok-order_text-in-Known-second-clause-text : goal.returns-in_ok-order_text-in-Known-second-clause-text
returns-in_ok-order_text-in-Known-second-clause-text c = λ limit E F f s.
    order-answered c.args.store.now limit E F c.in-Known.a c.in-Known-second.b c.args.first c.args.second _ c.in-Known.is c.in-Known-second.is c.in_ok-order_text-in-Known-second.ensures f s
