use Rattle.std.proofs.Common.{arith, ◌^◌}
use Rattle.sum_outcome.proofs.ExampleLaws.{options-small}
use Rattle.game_tests.proofs.plain_sum_tests.choice.Goals as goal

pub returns-clause-small : goal.returns-clause-small
returns-clause-small c =
    let made = c.in-Ok.ensures {u = tt} in
    (made.value.0, λ x n. omega (arith, made.sizes (2 ^ 62) (options-small c.args.store.now c.args.left c.args.right (2 ^ 62) c.requires.left.1 c.requires.right.1) x n))
