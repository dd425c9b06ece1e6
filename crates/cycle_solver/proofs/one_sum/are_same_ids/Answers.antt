use Rattle.cycle_solver.proofs.OneSumLaws.{same_all}
use Rattle.cycle_solver.proofs.one_sum.are_same_ids.Goals as goal

pub returns : goal.returns
returns c = λ _. same_all 0 c.args.a.now c.args.b.now c.places.place c.places-test.false c.places.invariant
