use Rattle.std.proofs.Common.{◌+◌, arith, get_or, refl, set, subst, sym}
use Rattle.std.proofs.lemmas.Result.{err_from_is_err_and}
use Rattle.go_grid.specs.Region.{Region}
use Rattle.game_canon.proofs.ChangedIdLaws.{extends-on, passed-on}
use Rattle.game_canon.proofs.NumberPartLaws.{within-bounds}
use Rattle.local_value.specs.Refusals.{IsValueRefusal}
use Rattle.local_trees.specs.GraphPlaces.{IsGraphOf}
use Rattle.local_value.proofs.PassLaws.{IsPass, call, pass-parts, pass-sizes, pass-values}
use Rattle.local_value.proofs.values.value_places.Goals as goal

pub valuing-init : goal.valuing-init
valuing-init c = record {
  kept = record { longer = omega arith; same = λ i l. refl };
  pass = λ r of. record { long = c.requires.places; each = λ j lt. absurd (omega (arith, lt)) };
  memo = c.requires.memo;
}

pub value_of-requires : goal.value_of-requires
value_of-requires c =
    let (r, of) = c.requires.graph in
    let w = call of (c.valuing.invariant.pass r of) c.order-place-items.ensures c.edges-edges.ensures c.deref.ensures.value
    c.valuing-test.true in
    record { noted = w.noted; small = w.small c.requires.few; memo = c.valuing.invariant.memo }

pub valuing-preserved : goal.valuing-preserved
valuing-preserved c = record {
  kept = extends-on _ _ _ c.valuing.invariant.kept c.value_of.ensures.kept;
  pass = λ r of. subst (λ id. IsPass r c.args.graph.now c.args.parts_limit c.value_of.new.store
      (set c.valuing.ids.items (get_or c.order-place-items.result.now c.valuing.place-index 0) id) (c.valuing.place-index + 1)) (sym c.in_ok-short.ensures)
      ((call of (c.valuing.invariant.pass r of) c.order-place-items.ensures c.edges-edges.ensures c.deref.ensures.value c.valuing-test.true).step
      c.value_of.new.store c.in_ok-id.id c.value_of.ensures.kept c.in_ok-id.ensures.value c.in_ok-id.ensures.sizes c.in_ok-id.ensures.parts);
  memo = c.in_ok-id.ensures.memo;
}

pub returns-in_err-id-clause-refusal : goal.returns-in_err-id-clause-refusal
returns-in_err-id-clause-refusal c = passed-on c.from_residual.result _ (λ e. (r : Region) → IsGraphOf r c.args.graph.now → IsValueRefusal r c.args.graph.now c.args.parts_limit e)
    (err_from_is_err_and c.from_residual.result c.from_residual.ensures.1)
    (λ r of. (call of (c.valuing.invariant.pass r of) c.order-place-items.ensures c.edges-edges.ensures c.deref.ensures.value c.valuing-test.true).refused
    _ c.in_err-id.ensures.refusal)

pub returns-clause-values : goal.returns-clause-values
returns-clause-values c =
    λ r of. pass-values of (c.valuing.invariant.pass r of) c.order-place-items.ensures c.valuing-test.false

pub returns-clause-sizes : goal.returns-clause-sizes
returns-clause-sizes c =
    λ r of i lt. pass-sizes of (c.valuing.invariant.pass r of) c.order-place-items.ensures c.valuing-test.false i lt

pub returns-clause-parts : goal.returns-clause-parts
returns-clause-parts c =
    let (r, of) = c.requires.graph in
    λ i lt. pass-parts of (c.valuing.invariant.pass r of) c.order-place-items.ensures c.valuing-test.false i lt

pub returns-clause-bounds : goal.returns-clause-bounds
returns-clause-bounds c =
    let (r, of) = c.requires.graph in
    λ i lt. within-bounds c.valuing.store c.len-count.ensures.forms _
    ((pass-values of (c.valuing.invariant.pass r of) c.order-place-items.ensures c.valuing-test.false).known i lt)

pub returns-in_err-id-clause-kept : goal.returns-in_err-id-clause-kept
returns-in_err-id-clause-kept c = extends-on _ _ _ c.valuing.invariant.kept c.value_of.ensures.kept

pub returns-in_err-short-clause-kept : goal.returns-in_err-short-clause-kept
returns-in_err-short-clause-kept c = extends-on _ _ _ c.valuing.invariant.kept c.value_of.ensures.kept
