use Rattle.std.proofs.Common.{◌<◌, arith, ap, subst, refl, below_more, get_or, length}
use Rattle.std.proofs.lemmas.Bool.{false≢true}
use Rattle.game_canon.specs.SumComparisons.{IsSumWithin}
use Rattle.game_canon.specs.inner.SumComparisons.{counter_by, weight}
use Rattle.game_canon.proofs.SumMoveLaws.{countered, none-counter, not_counter, counter-lighter, resists_below, stored_at}
use Rattle.game_canon.proofs.sums_at_most.tried.Goals as goal

pub returns-in-Some-true : goal.returns-in-Some-true
returns-in-Some-true c =
    let within = c.in-Some-true.ensures.some.0 c.in-Some-true.field-0-test in
    let counters = subst (IsSumWithin c.args.store.now) c.counter_by.ensures ((c.cancelled-counter.ensures.same c.args.store.now).0 within) in (
      λ e. absurd (false≢true e),
      λ y. absurd (countered c.args.store.now c.args.question.pair c.args.question.place c.moves-options.result.now c.moves-options.ensures c.options.option-index (omega (arith, c.options-test.true, c.options.auto.option-index-end)) counters y),
    )

pub returns : goal.returns
returns c = none-counter c.args.store.now c.args.question.pair c.args.question.place c.moves-options.result.now c.moves-options.ensures (λ j l. c.options.invariant j (omega (arith, l, c.options-test.false, c.options.auto.option-index-end)))

pub options-preserved-then-option-question : goal.options-preserved-then-option-question
options-preserved-then-option-question c =
    let is = c.moves-options.result.now in
    let l : c.options.option-index < length is = omega (arith, c.options-test.true, c.options.auto.option-index-end) in
    let skipped : get_or is c.options.option-index 0 < c.args.question.from = omega (arith, c.if-option-question.true) in
    below_more (λ j. IsSumWithin c.args.store.now (counter_by c.args.question.pair c.args.question.place (get_or is j 0)) → ⊥) c.options.option-index c.options.invariant
    (not_counter c.args.store.now c.args.question.pair c.args.question.place is c.moves-options.ensures c.options.option-index l (c.requires.resisted.below (get_or is c.options.option-index 0) skipped))

pub returns-in-None : goal.returns-in-None
returns-in-None c =
    let is = c.moves-options.result.now in
    let l : c.options.option-index < length is = omega (arith, c.options-test.true, c.options.auto.option-index-end) in (
      c.in-None.ensures.none,
      omega (arith, c.cancelled-counter.ensures.lighter, ap weight c.counter_by.ensures, counter-lighter c.args.question.pair c.args.question.place (get_or is c.options.option-index 0) (c.moves-options.ensures.below c.options.option-index l)),
      refl,
      record {
        places = c.requires.resisted.places;
        below = resists_below c.args.store.now c.args.question.pair c.args.question.place is c.moves-options.ensures c.requires.distinct (stored_at c.args.store.now c.args.question.pair c.args.question.place c.requires.ids) c.options.option-index l c.options.invariant;
      },
    )
