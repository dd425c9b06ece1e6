-- Who wins by play is the order against 0.
use Rattle.std.proofs.Common.{◌↔◌, inl, inr, ◌<◌}
use Rattle.short_games.specs.Tree.{Tree, size, neg}
use Rattle.short_games.specs.Order.{◌≤ᵍ◌, ◌⧏ᵍ◌, at_most, by_left, by_right}
use Rattle.short_games.specs.Sum.{◌+ᵍ◌}
use Rattle.short_games.specs.Moves.{LeftWins, RightWins}
use Rattle.short_games.specs.Play.{LeftWinsFirst, LeftWinsSecond, RightWinsFirst, RightWinsSecond, left_moves, left_answers, right_moves, right_answers}
use Rattle.short_games.specs.PlayLaws.{HasOneWinner, GoesByPlay, HasOutcome}
use Rattle.short_games.proofs.OrderLaws.{by_measure, by_test, not-both, size-left, size-right, le-trans}
use Rattle.short_games.proofs.SumLaws.{nought, plus-neg, plus-le, plus-cancel}

-- of 0 there are no options, so the order against it goes by the other game's
record LeftPlays (G : Tree) : Type 0 where
  second : (nought ≤ᵍ G) ↔ LeftWinsSecond G
  first : (nought ⧏ᵍ G) ↔ LeftWinsFirst G

record RightPlays (G : Tree) : Type 0 where
  second : (G ≤ᵍ nought) ↔ RightWinsSecond G
  first : (G ⧏ᵍ nought) ↔ RightWinsFirst G

left-plays : (G : Tree) → LeftPlays G
left-plays = by_measure size LeftPlays step
  where
    step : (G : Tree) → ((X : Tree) → size X < size G → LeftPlays X) → LeftPlays G
    step G ih = record { second = (to_second, from_second); first = (to_first, from_first) }
      where
        to_second : nought ≤ᵍ G → LeftWinsSecond G
        to_second (at_most f g) = left_answers (λ R r. (ih R (size-right G R r)).first.0 (g R r))

        from_second : LeftWinsSecond G → nought ≤ᵍ G
        from_second (left_answers f) = at_most (λ L l. absurd l) (λ R r. (ih R (size-right G R r)).first.1 (f R r))

        to_first : nought ⧏ᵍ G → LeftWinsFirst G
        to_first (by_left L l y) = left_moves L l ((ih L (size-left G L l)).second.0 y)
        to_first (by_right R r y) = absurd r

        from_first : LeftWinsFirst G → nought ⧏ᵍ G
        from_first (left_moves L l w) = by_left L l ((ih L (size-left G L l)).second.1 w)

right-plays : (G : Tree) → RightPlays G
right-plays = by_measure size RightPlays step
  where
    step : (G : Tree) → ((X : Tree) → size X < size G → RightPlays X) → RightPlays G
    step G ih = record { second = (to_second, from_second); first = (to_first, from_first) }
      where
        to_second : G ≤ᵍ nought → RightWinsSecond G
        to_second (at_most f g) = right_answers (λ L l. (ih L (size-left G L l)).first.0 (f L l))

        from_second : RightWinsSecond G → G ≤ᵍ nought
        from_second (right_answers f) = at_most (λ L l. (ih L (size-left G L l)).first.1 (f L l)) (λ R r. absurd r)

        to_first : G ⧏ᵍ nought → RightWinsFirst G
        to_first (by_left L l y) = absurd l
        to_first (by_right R r y) = right_moves R r ((ih R (size-right G R r)).second.0 y)

        from_first : RightWinsFirst G → G ⧏ᵍ nought
        from_first (right_moves R r w) = by_right R r ((ih R (size-right G R r)).second.1 w)

pub goes-by_play : (G : Tree) → GoesByPlay G
goes-by_play G = record {
  at_least = (left-plays G).second;
  at_most = (right-plays G).second;
  not_at_most = (left-plays G).first;
  not_at_least = (right-plays G).first;
}

pub determined : (G : Tree) → HasOneWinner G
determined G = let p = goes-by_play G in record {
  left_first = elim (by_test G nought) [ inl y ↦ inr (p.at_most.0 y) | inr y ↦ inl (p.not_at_most.0 y) ];
  right_first = elim (by_test nought G) [ inl y ↦ inr (p.at_least.0 y) | inr y ↦ inl (p.not_at_least.0 y) ];
  not_both_left = λ v w. not-both G nought (p.at_most.1 w) (p.not_at_most.1 v);
  not_both_right = λ v w. not-both nought G (p.at_least.1 w) (p.not_at_least.1 v);
}

-- two facts at once
both_turned : {A B C D : Type 0} → A ↔ C → B ↔ D → (A × B) ↔ (D × C)
both_turned a b = (λ p. (b.0 p.1, a.0 p.0), λ p. (a.1 p.1, b.1 p.0))

pub has-outcome : (G : Tree) → HasOutcome G
has-outcome G = let p = goes-by_play G in record {
  positive = both_turned p.at_least p.not_at_most;
  negative = both_turned p.at_most p.not_at_least;
  equal = both_turned p.at_most p.at_least;
  confused = both_turned p.not_at_least p.not_at_most;
}

pub play-compares : (G H : Tree) → (G ≤ᵍ H) ↔ LeftWinsSecond (H +ᵍ neg G)
play-compares G H = let p = (goes-by_play (H +ᵍ neg G)).at_least in (
  λ y. p.0 (le-trans _ (G +ᵍ neg G) _ (plus-neg G).1 (plus-le G H (neg G) y)),
  λ w. plus-cancel G H (neg G) (le-trans _ _ _ (plus-neg G).0 (p.1 w)),
)

pub moves-win : (G : Tree) → (LeftWins G ↔ LeftWinsFirst G) × (RightWins G ↔ RightWinsFirst G)
moves-win G = (
  (λ w. left_moves w.0 w.1 ((goes-by_play w.0).at_least.0 w.2), from_left),
  (λ w. right_moves w.0 w.1 ((goes-by_play w.0).at_most.0 w.2), from_right),
)
  where
    from_left : LeftWinsFirst G → LeftWins G
    from_left (left_moves L l w) = (L, l, (goes-by_play L).at_least.1 w)

    from_right : RightWinsFirst G → RightWins G
    from_right (right_moves R r w) = (R, r, (goes-by_play R).at_most.1 w)
