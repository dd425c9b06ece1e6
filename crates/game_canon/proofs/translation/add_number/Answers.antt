use Rattle.std.proofs.lemmas.Result.{err_from_is_err_and}
use Rattle.short_games.specs.Sum.{◌+ᵍ◌}
use Rattle.short_games.specs.Tree.{tree_at}
use Rattle.short_games.specs.Number.{number_tree}
use Rattle.game_canon.proofs.ChangedIdLaws.{passed-on}
use Rattle.game_canon.specs.Changes.{IsSumRefusal}
use Rattle.game_canon.proofs.NumberPartLaws.{sum-refused, sum-numbers, same-sum, within-bounds}
use Rattle.game_canon.proofs.translation.add_number.Goals as goal

pub returns-then-is_zero-clause-value : goal.returns-then-is_zero-clause-value
returns-then-is_zero-clause-value c = same-sum c.args.store.now c.args.a c.args.x (c.is_zero.ensures.0 c.if-is_zero.true) c.requires (c.len-count.ensures.canonical c.args.a c.requires)

pub returns-then-is_zero-clause-bounds : goal.returns-then-is_zero-clause-bounds
returns-then-is_zero-clause-bounds c = within-bounds c.args.store.now c.len-count.ensures.forms c.args.a c.requires

pub returns-in_err-sum-clause-refusal : goal.returns-in_err-sum-clause-refusal
returns-in_err-sum-clause-refusal c = passed-on c.from_residual.result _ (IsSumRefusal (tree_at c.args.store.now c.args.a +ᵍ number_tree c.args.x)) (err_from_is_err_and c.from_residual.result c.from_residual.ensures.1)
    (sum-refused (tree_at c.args.store.now c.args.a) c.args.x _ c.change_form.ensures.canonical (c.in_err-sum.ensures.refusal))

pub returns-clause-numbers : goal.returns-clause-numbers
returns-clause-numbers c = sum-numbers c.args.x (tree_at c.args.store.now c.args.a) (tree_at c.change_form.new.store c.in_ok-sum.sum) c.change_form.ensures.canonical c.in_ok-sum.ensures.value.1

pub returns-clause-bounds : goal.returns-clause-bounds
returns-clause-bounds c = within-bounds c.change_form.new.store c.len-new_count.ensures.forms c.in_ok-sum.sum c.in_ok-sum.ensures.value.0
