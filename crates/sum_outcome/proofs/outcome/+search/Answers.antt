use Rattle.std.proofs.Common.{arith, refl, inl, inr, ap, ◌∙◌, ◌≡◌, ◌<◌, ℕ, List, get_or, set, below_more}
use Rattle.std.proofs.lemmas.Bool.{false≢true, both_ways, OnFalse_at}
use Rattle.sum_outcome.specs.Sums.{sum_tree}
use Rattle.sum_outcome.specs.inner.Incentives.{IsPlaceSettled}
use Rattle.sum_outcome.proofs.DominationLaws.{OptionIsSettled, options_settled, repeated_settled, all_fail}
use Rattle.sum_outcome.proofs.MemoLaws.{from_key, to_key, stays_on, incentives_changed}
use Rattle.sum_outcome.proofs.OppositeLaws.{falls_without, ids_without, bounded_without, restored_both, answer_without}
use Rattle.sum_outcome.proofs.ListLaws.{put_back, falls_put, ids_put, loses_all, wins_one, bounded_put, wins_by_option}
use Rattle.sum_outcome.proofs.outcome.+search.Goals as goal

pub loses_sum-returns-in-Some-sign_by_stops-clause-answer : goal.loses_sum-returns-in-Some-sign_by_stops-clause-answer
loses_sum-returns-in-Some-sign_by_stops-clause-answer t c = c.loses_at.ensures (sum_tree c.args.store.now c.args.sum.now c.args.number) c.in-Some-sign_by_stops.ensures

pub loses_sum-loses_by_moves-requires : goal.loses_sum-loses_by_moves-requires
loses_sum-loses_by_moves-requires t c = (
  omega (arith, c.decreases),
  (c.requires.ids, (c.requires.bounds, (c.in_default-sign_by_stops.ensures, (c.key_in.ensures.right c.args.store.now c.find_opposites.ensures.right.right).right))),
)

pub loses_sum-returns-in_default-key_in-clause-right : goal.loses_sum-returns-in_default-key_in-clause-right
loses_sum-returns-in_default-key_in-clause-right t c =
    let Ts = c.args.store.now in
    let found = c.find_opposites.ensures.right in
    let keyed = c.key_in.ensures.right Ts found.right in
    stays_on Ts c.args.memo.now c.key_in.new.memo c.loses_by_moves.new.memo
    (stays_on Ts c.args.memo.now c.find_opposites.new.memo c.key_in.new.memo found keyed) c.loses_by_moves.ensures.right

pub loses_sum-returns-in-Some-recall-clause-answer : goal.loses_sum-returns-in-Some-recall-clause-answer
loses_sum-returns-in-Some-recall-clause-answer t c =
    let Ts = c.args.store.now in
    from_key Ts c.args.sum.now c.args.number c.args.side c.in-Some-key_in.key c.in-Some-recall.lost (c.in-Some-key_in.ensures {u = tt}).key
    (c.in-Some-recall.ensures.answer Ts (c.key_in.ensures.right Ts c.find_opposites.ensures.right.right).right).1

pub loses_sum-returns-in-Some-recall-clause-right : goal.loses_sum-returns-in-Some-recall-clause-right
loses_sum-returns-in-Some-recall-clause-right t c =
    let Ts = c.args.store.now in
    let found = c.find_opposites.ensures.right in
    let keyed = c.key_in.ensures.right Ts found.right in
    stays_on Ts c.args.memo.now c.key_in.new.memo c.recall.new.self
    (stays_on Ts c.args.memo.now c.find_opposites.new.memo c.key_in.new.memo found keyed) (c.recall.ensures.right Ts keyed.right)

pub loses_sum-loses_by_moves-lost-requires : goal.loses_sum-loses_by_moves-lost-requires
loses_sum-loses_by_moves-lost-requires t c =
    let Ts = c.args.store.now in
    let keyed = c.key_in.ensures.right Ts c.find_opposites.ensures.right.right in (
      omega (arith, c.decreases),
      (c.requires.ids, (c.requires.bounds, (c.in_default-sign_by_stops.ensures, (c.recall.ensures.right Ts keyed.right).right))),
    )

pub loses_sum-returns-clause-right : goal.loses_sum-returns-clause-right
loses_sum-returns-clause-right t c =
    let Ts = c.args.store.now in
    let found = c.find_opposites.ensures.right in
    let keyed = c.key_in.ensures.right Ts found.right in
    let a = c.loses_by_moves-lost.ensures in
    stays_on Ts c.args.memo.now c.loses_by_moves-lost.new.memo c.remember.new.self
    (stays_on Ts c.args.memo.now c.recall.new.self c.loses_by_moves-lost.new.memo
    (stays_on Ts c.args.memo.now c.key_in.new.memo c.recall.new.self
    (stays_on Ts c.args.memo.now c.find_opposites.new.memo c.key_in.new.memo found keyed) (c.recall.ensures.right Ts keyed.right)) a.right)
    (c.remember.ensures Ts (to_key Ts c.args.sum.now c.args.number c.args.side c.in-Some-key_in.key c.loses_by_moves-lost.result (c.in-Some-key_in.ensures {u = tt}).key a.answer) a.right.right)

pub loses_without-loses_sum-lost-requires : goal.loses_without-loses_sum-lost-requires
loses_without-loses_sum-lost-requires t c =
    let Ts = c.args.store.now in
    let ids = c.args.sum.now in
    let o = c.args.opposites in (
      omega (arith, falls_without Ts ids o.zero o.first o.second c.requires.opposite.zero c.requires.opposite.places, c.decreases),
      (
        ids_without Ts ids o.zero o.first o.second c.requires.opposite.zero c.requires.opposite.places c.requires.ids,
        (bounded_without Ts ids o.zero o.first o.second c.requires.opposite.zero c.requires.opposite.places c.args.number c.requires.bounds, c.requires.right),
      ),
    )

pub loses_without-returns-clause-same : goal.loses_without-returns-clause-same
loses_without-returns-clause-same t c =
    let o = c.args.opposites in
    restored_both c.args.store.now c.args.sum.now o.zero o.first o.second c.requires.opposite.zero c.requires.opposite.places c.loses_sum-lost.new.sum c.loses_sum-lost.ensures.same

pub loses_without-returns-clause-answer : goal.loses_without-returns-clause-answer
loses_without-returns-clause-answer t c =
    let o = c.args.opposites in
    answer_without c.args.store.now c.args.sum.now o.zero o.first o.second c.requires.opposite.zero c.requires.opposite.places c.args.number c.args.side c.loses_sum-lost.result c.loses_sum-lost.ensures.answer

pub loses_by_moves-returns-then-wins_at-clause-answer : goal.loses_by_moves-returns-then-wins_at-clause-answer
loses_by_moves-returns-then-wins_at-clause-answer t c =
    let w = rw c.places.invariant.0 at (c.wins_at.ensures.wins c.if-wins_at.true) in
    (λ e. absurd (false≢true e), λ l. absurd (wins_one c.args.store.now c.args.sum.now c.args.number c.args.side c.places.place c.places-test.true w l))

pub loses_by_moves-places-preserved : goal.loses_by_moves-places-preserved
loses_by_moves-places-preserved t c = (
  c.wins_at.ensures.same ∙ c.places.invariant.0,
  below_more (λ k. IsPlaceSettled c.args.store.now c.args.sum.now c.args.number c.args.side k) c.places.place c.places.invariant.1
      (rw c.places.invariant.0 at (OnFalse_at c.if-wins_at.false c.wins_at.ensures.settled)),
  stays_on c.args.store.now c.args.memo.now c.places.memo c.wins_at.new.memo c.places.invariant.2 c.wins_at.ensures.right,
)

pub loses_by_moves-places-preserved-then-is_repeated : goal.loses_by_moves-places-preserved-then-is_repeated
loses_by_moves-places-preserved-then-is_repeated t c =
    let (j, before, same) = rw c.places.invariant.0 at (c.is_repeated.ensures.0 c.if-is_repeated.true) in (
      c.places.invariant.0,
      below_more (λ k. IsPlaceSettled c.args.store.now c.args.sum.now c.args.number c.args.side k) c.places.place c.places.invariant.1
          (repeated_settled c.args.store.now c.args.sum.now c.args.number c.args.side j c.places.place before c.places-test.true same),
      c.places.invariant.2,
    )

pub loses_by_moves-returns-clause-answer : goal.loses_by_moves-returns-clause-answer
loses_by_moves-returns-clause-answer t c = (
  λ _. loses_all c.args.store.now c.args.sum.now c.args.number c.args.side c.requires.hot
      (all_fail c.args.store.now c.args.sum.now c.args.number c.args.side (λ k lt. c.places.invariant.1 k (omega (arith, c.places-test.false, lt)))),
  λ _. refl,
)

pub wins_at-loses_sum-lost-requires : goal.wins_at-loses_sum-lost-requires
wins_at-loses_sum-lost-requires t c =
    let os = c.moves-options.result.now in
    let j = c.options.option-index in
    let i = get_or os j 0 in
    let below : i < get_or c.args.sum.now c.args.place 0 = c.moves-options.ensures.below j c.options-test.true in
    rw c.options.invariant.0 (
      omega (arith, falls_put c.args.sum.now c.args.place i c.requires.place below, c.decreases),
      (
        ids_put c.args.store.now c.args.sum.now c.args.place i c.requires.place below c.requires.ids,
        (
          bounded_put c.args.store.now c.args.sum.now os c.args.number c.args.side c.args.place c.requires.place c.moves-options.ensures.options j c.options-test.true c.requires.bounds,
          (incentives_changed c.args.store.now c.args.memo.now c.options.memo c.is_dominated.new.known c.options.invariant.2 c.is_dominated.ensures.right c.is_dominated.ensures.cap).right,
        ),
      ),
    )

-- the sum with an option put for the game, and the game put back
restored : {ids tried now : List ℕ} (k i : ℕ) → tried ≡ ids → now ≡ set tried k i → set now k (get_or ids k 0) ≡ ids
restored {ids} k i e f = ap (λ l. set l k (get_or ids k 0)) (f ∙ ap (λ l. set l k i) e) ∙ put_back ids k i

pub wins_at-returns-then-lost-clause-same : goal.wins_at-returns-then-lost-clause-same
wins_at-returns-then-lost-clause-same t c = restored c.args.place _ c.options.invariant.0 c.loses_sum-lost.ensures.same

pub wins_at-returns-then-lost-clause-wins : goal.wins_at-returns-then-lost-clause-wins
wins_at-returns-then-lost-clause-wins t c =
    let w = rw (c.options.invariant.0, c.other.ensures) at (c.loses_sum-lost.ensures.answer.0 c.if-lost.true) in
    λ _. wins_by_option c.args.store.now c.args.sum.now c.moves-options.result.now c.args.number c.args.side c.args.place c.requires.place c.moves-options.ensures.options c.options.option-index c.options-test.true w

pub wins_at-options-preserved : goal.wins_at-options-preserved
wins_at-options-preserved t c = (
  restored c.args.place _ c.options.invariant.0 c.loses_sum-lost.ensures.same,
  below_more (λ j. OptionIsSettled c.args.store.now c.args.sum.now c.args.number c.args.side c.args.place (get_or c.moves-options.result.now j 0)) c.options.option-index c.options.invariant.1
      (inl (λ l. both_ways _ c.if-lost.false (c.loses_sum-lost.ensures.answer.1 (rw (c.options.invariant.0, c.other.ensures) l)))),
  stays_on c.args.store.now c.args.memo.now _ c.loses_sum-lost.new.memo
      (incentives_changed c.args.store.now c.args.memo.now c.options.memo c.is_dominated.new.known c.options.invariant.2 c.is_dominated.ensures.right c.is_dominated.ensures.cap)
      c.loses_sum-lost.ensures.right,
)

pub wins_at-options-preserved-then-is_dominated : goal.wins_at-options-preserved-then-is_dominated
wins_at-options-preserved-then-is_dominated t c = (
  c.options.invariant.0,
  below_more (λ j. OptionIsSettled c.args.store.now c.args.sum.now c.args.number c.args.side c.args.place (get_or c.moves-options.result.now j 0)) c.options.option-index c.options.invariant.1
      (inr (rw c.options.invariant.0 at (c.is_dominated.ensures.answer c.if-is_dominated.true))),
  incentives_changed c.args.store.now c.args.memo.now c.options.memo c.is_dominated.new.known c.options.invariant.2 c.is_dominated.ensures.right c.is_dominated.ensures.cap,
)

pub wins_at-returns-clause-settled : goal.wins_at-returns-clause-settled
wins_at-returns-clause-settled t c = options_settled c.args.store.now c.args.sum.now c.args.number c.args.side c.moves-options.result.now c.args.place c.moves-options.ensures.options (λ j l. c.options.invariant.1 j (omega (arith, c.options-test.false, l)))

pub wins_at-returns-then-lost-clause-right : goal.wins_at-returns-then-lost-clause-right
wins_at-returns-then-lost-clause-right t c = stays_on c.args.store.now c.args.memo.now _ c.loses_sum-lost.new.memo
    (incentives_changed c.args.store.now c.args.memo.now c.options.memo c.is_dominated.new.known c.options.invariant.2 c.is_dominated.ensures.right c.is_dominated.ensures.cap)
    c.loses_sum-lost.ensures.right

pub loses_by_moves-returns-then-wins_at-clause-right : goal.loses_by_moves-returns-then-wins_at-clause-right
loses_by_moves-returns-then-wins_at-clause-right t c = stays_on c.args.store.now c.args.memo.now c.places.memo c.wins_at.new.memo c.places.invariant.2 c.wins_at.ensures.right
