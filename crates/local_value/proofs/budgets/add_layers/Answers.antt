use Rattle.std.proofs.Common.{ℕ, ◌+◌, ◌≡◌, arith, length, List, sym, ap, ◌∙◌, subst, take}
use Rattle.std.proofs.lemmas.Bool.{true≢false}
use Rattle.std.proofs.lemmas.Result.{err_from_is_err_and}
use Rattle.game_canon.proofs.ChangedIdLaws.{extends-on}
use Rattle.local_value.specs.BudgetValues.{AreWithinLimits, IsPastLimits}
use Rattle.local_value.specs.Remembered.{IsRightAfter}
use Rattle.local_value.specs.inner.Layers.{AreLayers, AreValued}
use Rattle.local_value.specs.inner.Memo.{remembered}
use Rattle.local_value.proofs.KnownLemmas.{remembered-right}
use Rattle.local_value.proofs.SteadyLaws.{acyclic-steady, last-steady, layers-first, LastIsRepeated, limits-more, needs-more, no-layers, refused-form, refused-later, steady-layers, within-none}
use Rattle.local_value.proofs.budgets.add_layers.Goals as goal

pub add_layer-requires-clause-graph : goal.add_layer-requires-clause-graph
add_layer-requires-clause-graph c =
    let (r, of) = c.requires.graph in
    (r, of, subst (AreLayers r c.args.graph.now c.args.owner c.args.parts_limit c.args.store.now) (sym c.requires.none) (no-layers c.args.store.now))

pub add_layer-requires-clause-memo : goal.add_layer-requires-clause-memo
add_layer-requires-clause-memo c = c.requires.memo

pub returns-in-Err-clause-valued : goal.returns-in-Err-clause-valued
returns-in-Err-clause-valued c = λ r of. (0, omega arith, λ j lt. absurd (omega (arith, lt)), tt)

pub returns-in_err-add_layer-clause-valued : goal.returns-in_err-add_layer-clause-valued
returns-in_err-add_layer-clause-valued c = λ r of.
    refused-form (AreValued r c.args.graph.now c.args.owner c.args.most c.args.parts_limit c.add_layer.new.store c.add_layer.new.layers.items) _
    (err_from_is_err_and c.from_residual.result c.from_residual.ensures.1) (
      0,
      omega arith,
      λ j lt. absurd (omega (arith, lt)),
      subst (λ z. IsPastLimits r c.args.graph.now c.args.owner c.args.parts_limit (length z) c.in_err-add_layer.field-0.0) c.requires.none
          (c.in_err-add_layer.ensures.refusal r of
          (subst (AreLayers r c.args.graph.now c.args.owner c.args.parts_limit c.args.store.now) (sym c.requires.none) (no-layers c.args.store.now))),
    )

pub returns-then-not-has_cycle-clause-valued : goal.returns-then-not-has_cycle-clause-valued
returns-then-not-has_cycle-clause-valued c = λ r of.
    let none = subst (AreLayers r c.args.graph.now c.args.owner c.args.parts_limit c.args.store.now) (sym c.requires.none) (no-layers c.args.store.now) in
    let limits = subst (λ z. AreWithinLimits r c.args.graph.now c.args.owner c.args.parts_limit (length z)) c.requires.none
    (c.in_ok-add_layer.ensures.limits r of none) in
    let many : length c.add_layer.new.layers.items ≡ 0 + 1 = c.in_ok-add_layer.ensures.many ∙ ap (λ (z : List (List ℕ)). length z + 1) c.requires.none in (
      0,
      omega arith,
      steady-layers of (c.in_ok-add_layer.ensures.layers r of none) many (λ j lt. absurd (omega (arith, lt)))
          (acyclic-steady c.args.owner of (c.has_cycle.ensures.0 c.if-not-has_cycle.true)) (within-none of limits),
    )

pub returns-in_err-add_layer-clause-memo : goal.returns-in_err-add_layer-clause-memo
returns-in_err-add_layer-clause-memo c =
    refused-form (λ z. IsRightAfter c.add_layer.new.store c.args.parts_limit z (remembered c.add_layer.new.memo)) _
    (err_from_is_err_and c.from_residual.result c.from_residual.ensures.1) tt

pub returns-then-not-has_cycle-clause-memo : goal.returns-then-not-has_cycle-clause-memo
returns-then-not-has_cycle-clause-memo c = remembered-right c.in_ok-add_layer.ensures.memo

pub returns-in_err-add_layer-2-clause-memo : goal.returns-in_err-add_layer-2-clause-memo
returns-in_err-add_layer-2-clause-memo c =
    refused-form (λ z. IsRightAfter c.add_layer-in-layers.new.store c.args.parts_limit z (remembered c.add_layer-in-layers.new.memo)) c.in_err-add_layer-2.field-0.0
    (err_from_is_err_and c.from_residual-in_err-add_layer-2.result c.from_residual-in_err-add_layer-2.ensures.1) tt

pub returns-then-is_last_repeated-clause-memo : goal.returns-then-is_last_repeated-clause-memo
returns-then-is_last_repeated-clause-memo c = remembered-right c.in_ok-add_layer-2.ensures.memo

pub returns-clause-memo : goal.returns-clause-memo
returns-clause-memo c = remembered-right c.layers.invariant.memo

pub layers-init : goal.layers-init
layers-init c = record {
  kept = c.add_layer.ensures.kept;
  many = c.in_ok-add_layer.ensures.many ∙ ap (λ (z : List (List ℕ)). length z + 1) c.requires.none;
  layers = λ r of. c.in_ok-add_layer.ensures.layers r of
      (subst (AreLayers r c.args.graph.now c.args.owner c.args.parts_limit c.args.store.now) (sym c.requires.none) (no-layers c.args.store.now));
  needed = λ r of j lt. absurd (omega (arith, lt));
  limits = λ r of. within-none of (subst (λ z. AreWithinLimits r c.args.graph.now c.args.owner c.args.parts_limit (length z)) c.requires.none
      (c.in_ok-add_layer.ensures.limits r of
      (subst (AreLayers r c.args.graph.now c.args.owner c.args.parts_limit c.args.store.now) (sym c.requires.none) (no-layers c.args.store.now))));
  memo = c.in_ok-add_layer.ensures.memo;
}

pub add_layer-requires-in-layers-clause-graph : goal.add_layer-requires-in-layers-clause-graph
add_layer-requires-in-layers-clause-graph c =
    let (r, of) = c.requires.graph in
    (r, of, c.layers.invariant.layers r of)

pub returns-in_err-add_layer-2-clause-valued : goal.returns-in_err-add_layer-2-clause-valued
returns-in_err-add_layer-2-clause-valued c = λ r of.
    let past = subst (λ n. IsPastLimits r c.args.graph.now c.args.owner c.args.parts_limit n c.in_err-add_layer-2.field-0.0) c.layers.invariant.many
    (c.in_err-add_layer-2.ensures.refusal r of (c.layers.invariant.layers r of)) in
    let (k, le, needed, past') = refused-later of (c.layers.invariant.needed r of) (c.layers.invariant.limits r of c.layers.budget (omega arith))
    c.in_err-add_layer-2.field-0.0 past in
    refused-form (AreValued r c.args.graph.now c.args.owner c.args.most c.args.parts_limit c.add_layer-in-layers.new.store c.add_layer-in-layers.new.layers.items) c.in_err-add_layer-2.field-0.0
    (err_from_is_err_and c.from_residual-in_err-add_layer-2.result c.from_residual-in_err-add_layer-2.ensures.1)
    (k, omega (arith, le, c.layers-test.true, c.from-budget-end.ensures), needed, past')

pub returns-in_err-add_layer-2-clause-kept : goal.returns-in_err-add_layer-2-clause-kept
returns-in_err-add_layer-2-clause-kept c = extends-on _ _ _ c.layers.invariant.kept c.add_layer-in-layers.ensures.kept

pub returns-then-is_last_repeated-clause-kept : goal.returns-then-is_last_repeated-clause-kept
returns-then-is_last_repeated-clause-kept c = extends-on _ _ _ c.layers.invariant.kept c.add_layer-in-layers.ensures.kept

pub returns-then-is_last_repeated-clause-valued : goal.returns-then-is_last_repeated-clause-valued
returns-then-is_last_repeated-clause-valued c = λ r of.
    let all = c.in_ok-add_layer-2.ensures.layers r of (c.layers.invariant.layers r of) in
    let many : length c.add_layer-in-layers.new.layers.items ≡ c.layers.budget + 1 + 1 = c.in_ok-add_layer-2.ensures.many ∙ ap (λ n. n + 1) c.layers.invariant.many in
    let same = subst LastIsRepeated c.deref-in-layers-2.ensures.value (c.is_last_repeated.ensures.0 c.if-is_last_repeated.true) in
    let (first, few) = layers-first (c.layers.budget + 1) (omega (arith, many))
    (c.truncate.ensures.items ∙ ap (λ n. take (n + 1) c.add_layer-in-layers.new.layers.items) c.from.ensures) all in (
      c.layers.budget,
      omega (arith, c.layers-test.true, c.from-budget-end.ensures),
      steady-layers of first few (c.layers.invariant.needed r of) ((last-steady of c.layers.budget all many c.len-count.ensures.distinct).0 same)
          (c.layers.invariant.limits r of),
    )

pub layers-preserved : goal.layers-preserved
layers-preserved c = record {
  kept = extends-on _ _ _ c.layers.invariant.kept c.add_layer-in-layers.ensures.kept;
  many = c.in_ok-add_layer-2.ensures.many ∙ ap (λ n. n + 1) c.layers.invariant.many;
  layers = λ r of. c.in_ok-add_layer-2.ensures.layers r of (c.layers.invariant.layers r of);
  needed = λ r of.
      (let all = c.in_ok-add_layer-2.ensures.layers r of (c.layers.invariant.layers r of) in
      let many : length c.add_layer-in-layers.new.layers.items ≡ c.layers.budget + 1 + 1 = c.in_ok-add_layer-2.ensures.many ∙ ap (λ n. n + 1) c.layers.invariant.many in
      needs-more r c.args.owner (c.layers.invariant.needed r of) (λ steady.
      true≢false (sym (c.is_last_repeated.ensures.1 (subst LastIsRepeated (sym c.deref-in-layers-2.ensures.value)
      ((last-steady of c.layers.budget all many c.len-count.ensures.distinct).1 steady))) ∙ c.if-is_last_repeated.false)));
  limits = λ r of. limits-more of (c.layers.invariant.limits r of)
      (subst (AreWithinLimits r c.args.graph.now c.args.owner c.args.parts_limit) c.layers.invariant.many
      (c.in_ok-add_layer-2.ensures.limits r of (c.layers.invariant.layers r of)));
  memo = c.in_ok-add_layer-2.ensures.memo;
}

pub returns-clause-valued : goal.returns-clause-valued
returns-clause-valued c = λ r of. (
  λ j lt. c.layers.invariant.needed r of j (omega (arith, lt, c.layers-test.false, c.from-budget-end.ensures)),
  λ j le. c.layers.invariant.limits r of j (omega (arith, le, c.layers-test.false, c.from-budget-end.ensures)),
)
