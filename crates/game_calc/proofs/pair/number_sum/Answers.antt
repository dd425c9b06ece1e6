use Rattle.game_canon.proofs.CanonicalFormLaws.{number-few}
use Rattle.game_calc.proofs.SumSteps.{number-sum, number-refused}
use Rattle.game_calc.proofs.pair.number_sum.Goals as goal

pub returns-in_default-clause-refusal : goal.returns-in_default-clause-refusal
returns-in_default-clause-refusal c = number-refused c.args.x c.args.y c.args.parts_limit c.in_default.ensures

pub returns-clause-value : goal.returns-clause-value
returns-clause-value c = number-sum c.number.new.self c.args.x c.args.y c.in-Some.sum c.in_ok-number.field-0 c.in-Some.ensures c.in_ok-number.ensures.value

pub returns-clause-parts : goal.returns-clause-parts
returns-clause-parts c = number-few c.number.new.self c.in-Some.sum c.in_ok-number.field-0 c.args.parts_limit c.in_ok-number.ensures.value

pub returns-clause-kept : goal.returns-clause-kept
returns-clause-kept c = c.number.ensures.kept

pub returns-in_err-number-clause-kept : goal.returns-in_err-number-clause-kept
returns-in_err-number-clause-kept c = c.number.ensures.kept
