use Rattle.std.proofs.Common.{arith, rules}
use Rattle.sum_outcome.proofs.opposites.opposite_of.Goals as goal

pub returns-then-do_cancel-clause-opposite : goal.returns-then-do_cancel-clause-opposite
returns-then-do_cancel-clause-opposite c = record {
  before = omega (arith, c.others.auto.other);
  inside = c.others-test.true;
  first = c.may_cancel.ensures (search rules);
  second = c.do_cancel.ensures.behind (search rules);
  cancel = c.do_cancel.ensures.answer (search rules);
}
