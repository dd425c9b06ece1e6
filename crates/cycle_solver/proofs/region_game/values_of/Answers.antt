use Rattle.std.proofs.Common.{◌∙◌, ap, get_or, subst, sym}
use Rattle.std.proofs.lemmas.List.{get_or_default}
use Rattle.game_canon.specs.declared.errors.FormError.TheVariants.{Bounds, Parts}
use Rattle.local_value.specs.BudgetValues.{IsPastLimits}
use Rattle.local_value.specs.Remembered.{IsRememberedRight}
use Rattle.cycle_solver.proofs.GameLaws.{past_bounds, past_parts}
use Rattle.cycle_solver.proofs.region_game.values_of.Goals as goal

pub returns-in-Err-Form-Parts-clause-refusal : goal.returns-in-Err-Form-Parts-clause-refusal
returns-in-Err-Form-Parts-clause-refusal c =
    let r = c.args.region.now in
    let held = c.requires.graph in
    let (k, le, needed, past) =
    rw (c.in-Err-Form-Parts.field-0-is, c.in-Err-Form-Parts.field-0-0-is) at (c.in-Err-Form-Parts.ensures.valued r held.graph) in (
      c.index-lowest.ensures ∙ get_or_default c.region.inside.points.items 0 c.index-lowest.result.now 0 c.region.invariant.some ∙ ap (λ z. get_or z.points 0 0) c.region.view_is,
      held.positions,
      (
        c.args.colour,
        (
          k,
          le,
          needed,
          past_parts r c.args.graph.now held.graph c.args.colour c.args.limits.now.parts k
              (subst (λ n. IsPastLimits r c.args.graph.now c.args.colour n k Parts) c.parts.ensures.value past),
        ),
      ),
    )

pub returns-in-Err-Form-Bounds-clause-refusal : goal.returns-in-Err-Form-Bounds-clause-refusal
returns-in-Err-Form-Bounds-clause-refusal c =
    let r = c.args.region.now in
    let held = c.requires.graph in
    let (k, le, needed, past) =
    rw (c.in-Err-Form-Bounds.field-0-is, c.in-Err-Form-Bounds.field-0-0-is) at (c.in-Err-Form-Bounds.ensures.valued r held.graph) in (
      c.index-lowest.ensures ∙ get_or_default c.region.inside.points.items 0 c.index-lowest.result.now 0 c.region.invariant.some ∙ ap (λ z. get_or z.points 0 0) c.region.view_is,
      held.positions,
      (
        c.args.colour,
        (
          k,
          le,
          needed,
          past_bounds r c.args.graph.now held.graph c.args.colour c.args.limits.now.parts k
              (subst (λ n. IsPastLimits r c.args.graph.now c.args.colour n k Bounds) c.parts.ensures.value past),
        ),
      ),
    )

pub returns-in-Ok-clause-refusal : goal.returns-in-Ok-clause-refusal
returns-in-Ok-clause-refusal c = tt

pub returns-in-Ok-clause-memo : goal.returns-in-Ok-clause-memo
returns-in-Ok-clause-memo c =
    subst (λ n. IsRememberedRight c.value_steady_with.new.store n c.value_steady_with.new.memo) c.parts.ensures.value c.in-Ok.ensures.memo

pub value_steady_with-requires-clause-memo : goal.value_steady_with-requires-clause-memo
value_steady_with-requires-clause-memo c =
    subst (λ n. IsRememberedRight c.args.store.now n c.args.memo.now) (sym c.parts.ensures.value) c.requires.memo

pub returns-in-Ok-clause-kept : goal.returns-in-Ok-clause-kept
returns-in-Ok-clause-kept c = c.value_steady_with.ensures.kept

pub returns-in-Err-Captures-clause-refusal : goal.returns-in-Err-Captures-clause-refusal
returns-in-Err-Captures-clause-refusal c = tt

pub returns-in-Err-Captures-clause-kept : goal.returns-in-Err-Captures-clause-kept
returns-in-Err-Captures-clause-kept c = c.value_steady_with.ensures.kept

pub returns-in-Err-Form-Parts-clause-values : goal.returns-in-Err-Form-Parts-clause-values
returns-in-Err-Form-Parts-clause-values c = tt

pub returns-in-Err-Form-Parts-clause-kept : goal.returns-in-Err-Form-Parts-clause-kept
returns-in-Err-Form-Parts-clause-kept c = c.value_steady_with.ensures.kept

pub returns-in-Err-Form-Bounds-clause-values : goal.returns-in-Err-Form-Bounds-clause-values
returns-in-Err-Form-Bounds-clause-values c = tt

pub returns-in-Err-Form-Bounds-clause-kept : goal.returns-in-Err-Form-Bounds-clause-kept
returns-in-Err-Form-Bounds-clause-kept c = c.value_steady_with.ensures.kept

pub returns-in-Err-Form-Memory-clause-values : goal.returns-in-Err-Form-Memory-clause-values
returns-in-Err-Form-Memory-clause-values c = tt

pub returns-in-Err-Form-Memory-clause-refusal : goal.returns-in-Err-Form-Memory-clause-refusal
returns-in-Err-Form-Memory-clause-refusal c = tt

pub returns-in-Err-Form-Memory-clause-kept : goal.returns-in-Err-Form-Memory-clause-kept
returns-in-Err-Form-Memory-clause-kept c = c.value_steady_with.ensures.kept
