use Rattle.game_canon.proofs.SumCancellingLaws.{cancels-first_third, cancels-first_fourth, cancels-second_third, cancels-second_fourth}
use Rattle.game_canon.proofs.sums.cancelled.Goals as goal

pub returns-then-pair : goal.returns-then-pair
returns-then-pair c = cancels-first_third c.args.pair c.if-pair.true

pub returns-then-pair-2 : goal.returns-then-pair-2
returns-then-pair-2 c = cancels-first_fourth c.args.pair c.if-pair-2.true

pub returns-then-pair-3 : goal.returns-then-pair-3
returns-then-pair-3 c = cancels-second_third c.args.pair c.if-pair-3.true

pub returns-then-pair-4 : goal.returns-then-pair-4
returns-then-pair-4 c = cancels-second_fourth c.args.pair c.if-pair-4.true
