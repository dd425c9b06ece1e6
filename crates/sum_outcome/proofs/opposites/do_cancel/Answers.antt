use Rattle.std.proofs.Common.{rules}
use Rattle.short_games.specs.Tree.{tree_at}
use Rattle.sum_outcome.proofs.OppositeLaws.{cancel_both}
use Rattle.sum_outcome.proofs.opposites.do_cancel.Goals as goal

pub returns-clause-answer : goal.returns-clause-answer
returns-clause-answer c = λ _. cancel_both (tree_at c.args.store.now c.args.zero) (tree_at c.args.store.now c.args.game) (tree_at c.args.store.now c.args.other) c.requires.zero.1
    (c.in-Some-true.ensures.answer.0 (search rules)) (c.in-Some-true-is_at_least.ensures.answer.0 (search rules))
