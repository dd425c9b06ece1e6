use Rattle.std.proofs.Common.{sym, subst}
use Rattle.std.proofs.lemmas.Result.{IfErr-weaker, IfOk-weaker}
use Rattle.std.specs.Prelude.{IfOk}
use Rattle.short_games.specs.Number.{number_tree}
use Rattle.short_games.specs.Sum.{◌+ᵍ◌}
use Rattle.short_games.specs.Tree.{Tree, tree_at}
use Rattle.game_canon.specs.Outcomes.{IsCanonicalId}
use Rattle.game_calc.specs.Steps.{IsOutOfLimits, IsStepRefusal}
use Rattle.game_calc.proofs.NumberSteps.{id-turned, out-turned, refusal-turned}
use Rattle.game_calc.proofs.sums.add.Goals as goal

pub returns-in-Some-clause-within : goal.returns-in-Some-clause-within
returns-in-Some-clause-within c = subst (λ (t : Tree). IfOk c.sum_with_number.result (λ _. IsOutOfLimits c.args.parts_limit (tree_at c.args.store.now c.args.a) t → ⊥)) (sym c.in-Some.ensures) c.sum_with_number.ensures.within

pub returns-in-Some-number_of-clause-value : goal.returns-in-Some-number_of-clause-value
returns-in-Some-number_of-clause-value c =
    let G = tree_at c.args.store.now c.args.b in
    let H = tree_at c.args.store.now c.args.a in
    let Us = c.sum_with_number-in-Some-number_of.new.store in
    IfOk-weaker c.sum_with_number-in-Some-number_of.result (λ id. IsCanonicalId Us (G +ᵍ number_tree c.in-Some-number_of.x) id) (λ id. IsCanonicalId Us (H +ᵍ G) id)
    (λ id k. id-turned Us G H id (subst (λ (t : Tree). IsCanonicalId Us (G +ᵍ t) id) (sym c.in-Some-number_of.ensures) k)) c.sum_with_number-in-Some-number_of.ensures.value

pub returns-in-Some-number_of-clause-within : goal.returns-in-Some-number_of-clause-within
returns-in-Some-number_of-clause-within c =
    let G = tree_at c.args.store.now c.args.b in
    let H = tree_at c.args.store.now c.args.a in
    IfOk-weaker c.sum_with_number-in-Some-number_of.result (λ _. IsOutOfLimits c.args.parts_limit G (number_tree c.in-Some-number_of.x) → ⊥) (λ _. IsOutOfLimits c.args.parts_limit H G → ⊥)
    (λ id f out. f (subst (IsOutOfLimits c.args.parts_limit G) c.in-Some-number_of.ensures (out-turned c.args.parts_limit H G out))) c.sum_with_number-in-Some-number_of.ensures.within

pub returns-in-Some-number_of-clause-refusal : goal.returns-in-Some-number_of-clause-refusal
returns-in-Some-number_of-clause-refusal c =
    let G = tree_at c.args.store.now c.args.b in
    let H = tree_at c.args.store.now c.args.a in
    IfErr-weaker c.sum_with_number-in-Some-number_of.result (λ error. IsStepRefusal c.args.parts_limit G (number_tree c.in-Some-number_of.x) error) (λ error. IsStepRefusal c.args.parts_limit H G error)
    (λ error r. refusal-turned c.args.parts_limit G H error (subst (λ (t : Tree). IsStepRefusal c.args.parts_limit G t error) (sym c.in-Some-number_of.ensures) r)) c.sum_with_number-in-Some-number_of.ensures.refusal

pub returns-in-Some-clause-kept : goal.returns-in-Some-clause-kept
returns-in-Some-clause-kept c = c.sum_with_number.ensures.kept

pub returns-in-Some-number_of-clause-kept : goal.returns-in-Some-number_of-clause-kept
returns-in-Some-number_of-clause-kept c = c.sum_with_number-in-Some-number_of.ensures.kept

pub returns-clause-value : goal.returns-clause-value
returns-clause-value c = c.add_by_table.ensures.value

pub returns-clause-within : goal.returns-clause-within
returns-clause-within c = c.add_by_table.ensures.within

pub returns-clause-refusal : goal.returns-clause-refusal
returns-clause-refusal c = c.add_by_table.ensures.refusal

pub returns-clause-kept : goal.returns-clause-kept
returns-clause-kept c = c.add_by_table.ensures.kept
