use Rattle.std.proofs.Common.{ℕ, ◌+◌, ◌⊎◌, ◌≡◌, arith, refl, sym, ap, ◌∙◌, subst, get_or, length, set, take, List}
use Rattle.std.proofs.lemmas.Result.{err_from_is_err_and}
use Rattle.go_grid.specs.Region.{Region}
use Rattle.game_canon.proofs.ChangedIdLaws.{extends-on, passed-on}
use Rattle.local_value.specs.BudgetValues.{IsReturnGraphOf, IsPastLimits}
use Rattle.local_value.specs.inner.Layers.{IsLayer, AreLayers, IsKept, IsMade, IsRoom}
use Rattle.local_value.proofs.LayerPassLaws.{IsLayerPass, layer-call, layer-done, layer-place, layer-start}
use Rattle.local_value.proofs.SteadyLaws.{layer-limits}
use Rattle.local_value.proofs.budgets.layer.Goals as goal

pub valuing-init : goal.valuing-init
valuing-init c = record {
  kept = record { longer = omega arith; same = λ i l. refl };
  pass = λ r of before. layer-start c.has_layer-has_budget.ensures before
      (subst (λ n. IsRoom n c.args.layers.now c.in_ok-ids.ids.items) (c.len-count.ensures ∙ ap (λ (z : List ℕ). length z) c.graph.ensures.positions) c.in_ok-ids.ensures);
  memo = c.requires.memo;
}

pub followed_edges-requires-clause-place : goal.followed_edges-requires-clause-place
followed_edges-requires-clause-place c =
    let (r, of, before) = c.requires.graph in
    (layer-place of c.args.owner c.order-place-items.ensures c.valuing-test.true).0

pub followed_edges-requires-clause-next : goal.followed_edges-requires-clause-next
followed_edges-requires-clause-next c =
    let (r, of, before) = c.requires.graph in
    (layer-place of c.args.owner c.order-place-items.ensures c.valuing-test.true).1

pub id_of-requires-clause-noted : goal.id_of-requires-clause-noted
id_of-requires-clause-noted c =
    let (r, of, before) = c.requires.graph in
    (layer-call of (c.valuing.invariant.pass r of before) c.order-place-items.ensures c.deref.ensures.value
    refl c.valuing-test.true c.in_ok-edges.ensures).noted

pub id_of-requires-clause-small : goal.id_of-requires-clause-small
id_of-requires-clause-small c =
    let (r, of, before) = c.requires.graph in
    (layer-call of (c.valuing.invariant.pass r of before) c.order-place-items.ensures c.deref.ensures.value
    refl c.valuing-test.true c.in_ok-edges.ensures).small c.requires.low c.requires.few

pub id_of-requires-clause-place : goal.id_of-requires-clause-place
id_of-requires-clause-place c =
    let (r, of, before) = c.requires.graph in
    let (inside, _) = layer-place of c.args.owner c.order-place-items.ensures c.valuing-test.true in
    let long = (c.valuing.invariant.pass r of before).long in
    omega (arith, inside, long, ap (λ (z : List ℕ). length z) c.deref.ensures.value)

pub returns-in_err-id-clause-refusal : goal.returns-in_err-id-clause-refusal
returns-in_err-id-clause-refusal c = passed-on c.from_residual-in_err-id.result _
    (λ e. (r : Region) → IsReturnGraphOf r c.args.graph.now
    → AreLayers r c.args.graph.now c.args.owner c.args.parts_limit c.args.store.now c.args.layers.now
    → IsPastLimits r c.args.graph.now c.args.owner c.args.parts_limit (length c.args.layers.now) e)
    (err_from_is_err_and c.from_residual-in_err-id.result c.from_residual-in_err-id.ensures.1)
    (λ r of before. (layer-call of (c.valuing.invariant.pass r of before) c.order-place-items.ensures c.deref.ensures.value
    refl c.valuing-test.true c.in_ok-edges.ensures).refused _ c.in_err-id.ensures.refusal)

pub index_mut-requires : goal.index_mut-requires
index_mut-requires c =
    let (r, of, before) = c.requires.graph in
    let (inside, _) = layer-place of c.args.owner c.order-place-items.ensures c.valuing-test.true in
    let pass = c.valuing.invariant.pass r of before in
    omega (arith, inside, pass.long, c.valuing.ids.ok)

pub valuing-preserved : goal.valuing-preserved
valuing-preserved c = record {
  kept = extends-on _ _ _ c.valuing.invariant.kept c.id_of.ensures.kept;
  pass = λ r of before. subst (λ id. IsLayerPass r c.args.graph.now c.args.owner c.args.parts_limit (length c.args.layers.now) c.has_layer-has_budget.result
      c.id_of.new.store (set c.valuing.ids.items (get_or c.order-place-items.result.now c.valuing.place-index 0) id) (c.valuing.place-index + 1))
      (sym c.in_ok-short.ensures)
      ((layer-call of (c.valuing.invariant.pass r of before) c.order-place-items.ensures c.deref.ensures.value
      refl c.valuing-test.true c.in_ok-edges.ensures).step
      c.id_of.new.store c.in_ok-id.id c.id_of.ensures.kept
      (subst (λ n. IsKept n c.deref.result.now (get_or c.order-place-items.result.now c.valuing.place-index 0) c.in_ok-edges.edges c.in_ok-id.id ⊎ IsMade c.valuing.store c.id_of.new.store c.deref.result.now
      c.args.parts_limit c.in_ok-edges.edges c.in_ok-id.id) (c.len-count.ensures ∙ ap (λ (z : List ℕ). length z) c.graph.ensures.positions) c.in_ok-id.ensures.id));
  memo = c.in_ok-id.ensures.memo;
}

pub returns-clause-layer : goal.returns-clause-layer
returns-clause-layer c = λ r of before.
    let done = layer-done of (c.valuing.invariant.pass r of before) c.order-place-items.ensures c.valuing-test.false in
    let count : c.len-count.result ≡ length c.args.graph.now.positions = c.len-count.ensures ∙ ap (λ (z : List ℕ). length z) c.graph.ensures.positions in
    subst (IsLayer r c.args.graph.now c.args.owner c.args.parts_limit (length c.args.layers.now) c.valuing.store)
    (sym (c.from.ensures ∙ c.shrink_to_fit.ensures.items ∙ c.truncate.ensures.items ∙ ap (λ n. take n c.valuing.ids.items) count)) done

pub returns-clause-limits : goal.returns-clause-limits
returns-clause-limits c = λ r of before. layer-limits of (returns-clause-layer c r of before) c.len-count-2.ensures.forms
