use Rattle.std.proofs.Common.{arith}
use Rattle.std.proofs.lemmas.Result.{err_from_is_err_and}
use Rattle.short_games.specs.Number.{number_tree}
use Rattle.short_games.specs.Tree.{tree_at}
use Rattle.game_canon.proofs.ChangedIdLaws.{passed-on}
use Rattle.game_calc.specs.Steps.{IsStepRefusal}
use Rattle.game_calc.proofs.NumberSteps.{many-refused, number-step-refused, parts-few, within-number}
use Rattle.game_calc.proofs.numbers.sum_with_number.Goals as goal

pub returns-in_err-sum-clause-refusal : goal.returns-in_err-sum-clause-refusal
returns-in_err-sum-clause-refusal c =
    passed-on c.from_residual.result _ (IsStepRefusal c.args.parts_limit (tree_at c.args.store.now c.args.a) (number_tree c.args.x)) (err_from_is_err_and c.from_residual.result c.from_residual.ensures.1)
    (number-step-refused (tree_at c.args.store.now c.args.a) c.args.x c.args.parts_limit _ c.in_err-sum.ensures.refusal)

pub returns-then-count-from-clause-refusal : goal.returns-then-count-from-clause-refusal
returns-then-count-from-clause-refusal c =
    many-refused c.add_number.new.store (tree_at c.args.store.now c.args.a) c.args.x c.in_ok-sum.sum c.in_ok-count.count c.args.parts_limit c.in_ok-sum.ensures.value c.in_ok-count.ensures (omega (arith, c.if-count-from.true, c.from.ensures))

pub returns-clause-within : goal.returns-clause-within
returns-clause-within c =
    within-number c.add_number.new.store (tree_at c.args.store.now c.args.a) c.args.x c.in_ok-sum.sum c.args.parts_limit (c.len-count.ensures.canonical c.args.a c.requires) c.in_ok-sum.ensures.value
    (parts-few _ c.in_ok-count.count c.args.parts_limit c.in_ok-count.ensures (omega (arith, c.if-count-from.false, c.from.ensures))) c.in_ok-sum.ensures.bounds

pub returns-clause-kept : goal.returns-clause-kept
returns-clause-kept c = c.add_number.ensures.kept

pub returns-in_err-sum-clause-kept : goal.returns-in_err-sum-clause-kept
returns-in_err-sum-clause-kept c = c.add_number.ensures.kept

pub returns-in_err-count-clause-kept : goal.returns-in_err-count-clause-kept
returns-in_err-count-clause-kept c = c.add_number.ensures.kept

pub returns-then-count-from-clause-kept : goal.returns-then-count-from-clause-kept
returns-then-count-from-clause-kept c = c.add_number.ensures.kept
