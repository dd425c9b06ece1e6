use Rattle.std.proofs.lemmas.Int.{to_z-of_z}
use Rattle.sum_outcome.proofs.ExampleLaws.{small-number}
use Rattle.game_tests.proofs.plain_sum_tests.whole.Goals as goal

pub returns-clause-small : goal.returns-clause-small
returns-clause-small c = small-number c.number.new.self c.in-Ok.id c.whole.result c.args.n ((c.in-Ok.ensures {u = tt}).value) c.requires (rw (to_z-of_z _ c.args.n c.ranges.n) at c.whole.ensures)
