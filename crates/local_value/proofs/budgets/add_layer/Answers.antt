use Rattle.std.proofs.Common.{length, sym, subst}
use Rattle.std.proofs.lemmas.Result.{err_from_is_err_and}
use Rattle.go_grid.specs.Region.{Region}
use Rattle.game_canon.proofs.ChangedIdLaws.{passed-on}
use Rattle.local_value.specs.BudgetValues.{IsReturnGraphOf, AreWithinLimits, IsPastLimits}
use Rattle.local_value.specs.inner.Layers.{AreLayers, IsLayer}
use Rattle.local_value.proofs.SteadyLaws.{layers-more}
use Rattle.local_value.proofs.budgets.add_layer.Goals as goal

pub returns-in_err-layer-clause-refusal : goal.returns-in_err-layer-clause-refusal
returns-in_err-layer-clause-refusal c = passed-on c.from_residual.result _
    (λ e. (r : Region) → IsReturnGraphOf r c.args.graph.now
    → AreLayers r c.args.graph.now c.args.owner c.args.parts_limit c.args.store.now c.args.layers.now.items
    → IsPastLimits r c.args.graph.now c.args.owner c.args.parts_limit (length c.args.layers.now.items) e)
    (err_from_is_err_and c.from_residual.result c.from_residual.ensures.1)
    (λ r of before. subst (λ z. IsPastLimits r c.args.graph.now c.args.owner c.args.parts_limit (length z) c.in_err-layer.field-0.0) c.deref.ensures.value
    (c.in_err-layer.ensures.refusal r of
    (subst (AreLayers r c.args.graph.now c.args.owner c.args.parts_limit c.args.store.now) (sym c.deref.ensures.value) before)))

pub returns-clause-layers : goal.returns-clause-layers
returns-clause-layers c = λ r of before.
    let before' = subst (AreLayers r c.args.graph.now c.args.owner c.args.parts_limit c.args.store.now) (sym c.deref.ensures.value) before in
    layers-more c.in_ok-append.ensures c.layer.ensures.kept
    (subst (λ z. IsLayer r c.args.graph.now c.args.owner c.args.parts_limit (length z) c.layer.new.store c.in_ok-layer.layer) c.deref.ensures.value
    (c.in_ok-layer.ensures.layer r of before')) before

pub layer-requires-clause-graph : goal.layer-requires-clause-graph
layer-requires-clause-graph c =
    let (r, of, before) = c.requires.graph in
    (r, of, subst (AreLayers r c.args.graph.now c.args.owner c.args.parts_limit c.args.store.now) (sym c.deref.ensures.value) before)

pub returns-in_err-layer-clause-kept : goal.returns-in_err-layer-clause-kept
returns-in_err-layer-clause-kept c = c.layer.ensures.kept

pub returns-in_err-append-clause-refusal : goal.returns-in_err-append-clause-refusal
returns-in_err-append-clause-refusal c = passed-on c.from_residual-in_err-append.result _
    (λ e. (r : Region) → IsReturnGraphOf r c.args.graph.now
    → AreLayers r c.args.graph.now c.args.owner c.args.parts_limit c.args.store.now c.args.layers.now.items
    → IsPastLimits r c.args.graph.now c.args.owner c.args.parts_limit (length c.args.layers.now.items) e)
    (err_from_is_err_and c.from_residual-in_err-append.result c.from_residual-in_err-append.ensures.1) (λ r of before. tt)

pub returns-in_err-append-clause-kept : goal.returns-in_err-append-clause-kept
returns-in_err-append-clause-kept c = c.layer.ensures.kept

pub returns-clause-limits : goal.returns-clause-limits
returns-clause-limits c = λ r of before.
    subst (λ z. AreWithinLimits r c.args.graph.now c.args.owner c.args.parts_limit (length z)) c.deref.ensures.value
    (c.in_ok-layer.ensures.limits r of (subst (AreLayers r c.args.graph.now c.args.owner c.args.parts_limit c.args.store.now) (sym c.deref.ensures.value) before))

pub returns-clause-memo : goal.returns-clause-memo
returns-clause-memo c = c.in_ok-layer.ensures.memo

pub returns-clause-kept : goal.returns-clause-kept
returns-clause-kept c = c.layer.ensures.kept
