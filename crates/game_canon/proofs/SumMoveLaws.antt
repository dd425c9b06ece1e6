-- A comparison of sums of two games, of which one is no number, rests on the moves in those that are no numbers.
use Rattle.std.proofs.Common.{ℕ, zero, suc, ◌<◌, ◌≡◌, ◌↔◌, ◌∙◌, List, length, get_or, arith, inl, inr, refl, sym, ap, subst, ℤ, pos, ◌+ℤ◌, ◌<ℤ◌, neg_ℤ}
use Rattle.std.proofs.lemmas.Bool.{cases_lt}
use Rattle.std.proofs.lemmas.Int.{ints}
use Rattle.short_games.specs.Tree.{Tree, Trees, left, right, Has, tree_at, AreDistinct}
use Rattle.short_games.specs.Order.{◌≤ᵍ◌}
use Rattle.short_games.specs.Sum.{◌+ᵍ◌}
use Rattle.short_games.specs.Number.{num, IsNumber, IsNumberTree}
use Rattle.short_games.specs.TextOrder.{IsCanonicalTree, sorted}
use Rattle.game_store.specs.Meaning.{pick, AreBelow, AreCanonical, IsAscending}
use Rattle.short_games.proofs.OrderLaws.{le-out, le-in, le-refl, le-trans}
use Rattle.short_games.proofs.SumLaws.{InSum, left_of_sum, right_of_sum, left_in_first, left_in_second, right_in_first, right_in_second, plus-le, plus-le_both, plus-cancel, plus-assoc, same-swap}
use Rattle.short_games.proofs.SumLaws.InSum.{in_first, in_second}
use Rattle.short_games.proofs.NumberLaws.{num-left, num-right, num-le, num-plus_le}
use Rattle.short_games.proofs.ReductionLaws.{canonical-number}
use Rattle.short_games.proofs.AvoidanceLaws.{cheap_left, cheap_right}
use Rattle.game_store.proofs.EntryLaws.{pick-has, has-pick}
use Rattle.short_games.proofs.TextOrderLaws.{sorted-has, has-sorted}
use Rattle.game_canon.specs.declared.sums.SumPair.{SumPair}
use Rattle.game_canon.specs.declared.sums.Place.{Place}
use Rattle.game_canon.specs.declared.sums.Place.TheVariants.{First, Second, Third, Fourth}
use Rattle.game_canon.specs.declared.sums_at_most.SumQuestion.{SumQuestion}
use Rattle.game_canon.specs.SumComparisons.{IsSumWithin, AreStored}
use Rattle.game_canon.specs.inner.SumComparisons.{AreNumbers, game_at, options_at, IsMoveIn, AreMoves, counter_by, Counters, Resists, rank, HasResisted, weight}
use Rattle.game_canon.proofs.GameLaws.{none-list}

-- a player who moves in a number loses by it
number_left : (G L : Tree) → IsNumberTree G → Has (left G) L → (e : ℕ) × (d : ℤ) × (pos 0 <ℤ d) × (L +ᵍ num e d ≤ᵍ G)
number_left G L n h =
    let r = num-left n.0 n.1 L (subst (λ t. Has (left t) L) n.2 h) in (
      n.0,
      n.1 +ℤ neg_ℤ r.0,
      omega (arith, ints, r.1),
      subst (λ t. t +ᵍ num n.0 (n.1 +ℤ neg_ℤ r.0) ≤ᵍ G) (sym r.2)
          (subst (λ t. num n.0 r.0 +ᵍ num n.0 (n.1 +ℤ neg_ℤ r.0) ≤ᵍ t) (sym n.2) (le-trans _ _ _ (num-plus_le n.0 r.0 (n.1 +ℤ neg_ℤ r.0)) (num-le n.0 (r.0 +ℤ (n.1 +ℤ neg_ℤ r.0)) n.1 (omega (arith, ints))))),
    )

number_right : (G R : Tree) → IsNumberTree G → Has (right G) R → (e : ℕ) × (d : ℤ) × (pos 0 <ℤ d) × (G +ᵍ num e d ≤ᵍ R)
number_right G R n h =
    let r = num-right n.0 n.1 R (subst (λ t. Has (right t) R) n.2 h) in (
      n.0,
      r.0 +ℤ neg_ℤ n.1,
      omega (arith, ints, r.1),
      subst (λ t. G +ᵍ num n.0 (r.0 +ℤ neg_ℤ n.1) ≤ᵍ t) (sym r.2)
          (subst (λ t. t +ᵍ num n.0 (r.0 +ℤ neg_ℤ n.1) ≤ᵍ num n.0 r.0) (sym n.2) (le-trans _ _ _ (num-plus_le n.0 n.1 (r.0 +ℤ neg_ℤ n.1)) (num-le n.0 (n.1 +ℤ (r.0 +ℤ neg_ℤ n.1)) r.0 (omega (arith, ints))))),
    )

-- the second sum is at most the first even with a number above 0 added
abbrev HasSlack : (A B C D : Tree) → Type 0
HasSlack A B C D = (e : ℕ) × (d : ℤ) × (pos 0 <ℤ d) × ((C +ᵍ D) +ᵍ num e d ≤ᵍ A +ᵍ B)

-- so it is where a move in a number counters
module _ (A B C D X : Tree) (e : ℕ) (d : ℤ) (p : pos 0 <ℤ d) where
  from_first : X +ᵍ num e d ≤ᵍ A → C +ᵍ D ≤ᵍ X +ᵍ B → HasSlack A B C D
  from_first q y = (e, d, p, le-trans _ ((X +ᵍ B) +ᵍ num e d) _ (plus-le (C +ᵍ D) (X +ᵍ B) (num e d) y) (le-trans _ ((X +ᵍ num e d) +ᵍ B) _ (same-swap X B (num e d)).0 (plus-le (X +ᵍ num e d) A B q)))

  from_second : X +ᵍ num e d ≤ᵍ B → C +ᵍ D ≤ᵍ A +ᵍ X → HasSlack A B C D
  from_second q y = (e, d, p, le-trans _ ((A +ᵍ X) +ᵍ num e d) _ (plus-le (C +ᵍ D) (A +ᵍ X) (num e d) y) (subst (λ t. t ≤ᵍ A +ᵍ B) (sym (plus-assoc A X (num e d))) (plus-le_both A A (X +ᵍ num e d) B (le-refl A) q)))

  from_third : C +ᵍ num e d ≤ᵍ X → X +ᵍ D ≤ᵍ A +ᵍ B → HasSlack A B C D
  from_third q y = (e, d, p, le-trans _ ((C +ᵍ num e d) +ᵍ D) _ (same-swap C D (num e d)).0 (le-trans _ (X +ᵍ D) _ (plus-le (C +ᵍ num e d) X D q) y))

  from_fourth : D +ᵍ num e d ≤ᵍ X → C +ᵍ X ≤ᵍ A +ᵍ B → HasSlack A B C D
  from_fourth q y = (e, d, p, subst (λ t. t ≤ᵍ A +ᵍ B) (sym (plus-assoc C D (num e d))) (le-trans _ (C +ᵍ X) _ (plus-le_both C C (D +ᵍ num e d) X (le-refl C) q) y))

-- and then a move in a game that is no number counters too, since one loses less than that number
module _ (A B C D : Tree) (s : HasSlack A B C D) where
  to_first : (IsNumber A → ⊥) → (X : Tree) × Has (left A) X × (C +ᵍ D ≤ᵍ X +ᵍ B)
  to_first n =
      let N = num s.0 s.1 in
      let c = cheap_left A n s.0 s.1 s.2 in
      (c.0, c.1, plus-cancel (C +ᵍ D) (c.0 +ᵍ B) N (le-trans _ (A +ᵍ B) _ s.3 (le-trans _ ((c.0 +ᵍ N) +ᵍ B) _ (plus-le A (c.0 +ᵍ N) B c.2) (same-swap c.0 N B).0)))

  to_second : (IsNumber B → ⊥) → (X : Tree) × Has (left B) X × (C +ᵍ D ≤ᵍ A +ᵍ X)
  to_second n =
      let N = num s.0 s.1 in
      let c = cheap_left B n s.0 s.1 s.2 in
      (c.0, c.1, plus-cancel (C +ᵍ D) (A +ᵍ c.0) N (le-trans _ (A +ᵍ B) _ s.3 (subst (λ t. A +ᵍ B ≤ᵍ t) (sym (plus-assoc A c.0 N)) (plus-le_both A A B (c.0 +ᵍ N) (le-refl A) c.2))))

  to_third : (IsNumber C → ⊥) → (X : Tree) × Has (right C) X × (X +ᵍ D ≤ᵍ A +ᵍ B)
  to_third n =
      let N = num s.0 s.1 in
      let c = cheap_right C n s.0 s.1 s.2 in
      (c.0, c.1, le-trans _ ((C +ᵍ N) +ᵍ D) _ (plus-le c.0 (C +ᵍ N) D c.2) (le-trans _ ((C +ᵍ D) +ᵍ N) _ (same-swap C N D).0 s.3))

  to_fourth : (IsNumber D → ⊥) → (X : Tree) × Has (right D) X × (C +ᵍ X ≤ᵍ A +ᵍ B)
  to_fourth n =
      let N = num s.0 s.1 in
      let c = cheap_right D n s.0 s.1 s.2 in
      (c.0, c.1, le-trans _ (C +ᵍ (D +ᵍ N)) _ (plus-le_both C C c.0 (D +ᵍ N) (le-refl C) c.2) (subst (λ t. t ≤ᵍ A +ᵍ B) (plus-assoc C D N) s.3))

non_number : (G : Tree) → IsCanonicalTree G → (IsNumberTree G → ⊥) → IsNumber G → ⊥
non_number G c f n = f (n.0, n.1, canonical-number G c n)

-- where no move in a game that is no number counters, the first sum is at most the second
module _ (Ts : List Tree) (p : SumPair) (canonical : AreCanonical Ts) (ids : AreStored Ts p) (hot : AreNumbers Ts p → ⊥) (r1 : Resists Ts p First) (r2 : Resists Ts p Second) (r3 : Resists Ts p Third) (r4 : Resists Ts p Fourth) where
  no_slack : HasSlack (tree_at Ts p.first) (tree_at Ts p.second) (tree_at Ts p.third) (tree_at Ts p.fourth) → ⊥
  no_slack s = at_first (λ a. at_second (λ b. at_third (λ c. at_fourth (λ d. hot record { first_number = a; second_number = b; third_number = c; fourth_number = d }))))
    where
      at_first : (IsNumberTree (tree_at Ts p.first) → ⊥) → ⊥
      at_first n = let x = to_first _ _ _ _ s (non_number _ (canonical p.first ids.first_id) n) in r1 x.0 (n, x.1) x.2

      at_second : (IsNumberTree (tree_at Ts p.second) → ⊥) → ⊥
      at_second n = let x = to_second _ _ _ _ s (non_number _ (canonical p.second ids.second_id) n) in r2 x.0 (n, x.1) x.2

      at_third : (IsNumberTree (tree_at Ts p.third) → ⊥) → ⊥
      at_third n = let x = to_third _ _ _ _ s (non_number _ (canonical p.third ids.third_id) n) in r3 x.0 (n, x.1) x.2

      at_fourth : (IsNumberTree (tree_at Ts p.fourth) → ⊥) → ⊥
      at_fourth n = let x = to_fourth _ _ _ _ s (non_number _ (canonical p.fourth ids.fourth_id) n) in r4 x.0 (n, x.1) x.2

  pub resisted : IsSumWithin Ts p
  resisted = le-in _ _ record {
    from_left = λ X h y. by_left X (left_of_sum (tree_at Ts p.first) (tree_at Ts p.second) X h) y;
    from_right = λ X h y. by_right X (right_of_sum (tree_at Ts p.third) (tree_at Ts p.fourth) X h) y;
  }
    where
      by_left : (Y : Tree) → InSum (tree_at Ts p.first) (tree_at Ts p.second) (left (tree_at Ts p.first)) (left (tree_at Ts p.second)) Y → tree_at Ts p.third +ᵍ tree_at Ts p.fourth ≤ᵍ Y → ⊥
      by_left _ (in_first X h) y = r1 X (λ n. (let m = number_left _ X n h in no_slack (from_first _ _ _ _ X m.0 m.1 m.2 m.3 y)), h) y
      by_left _ (in_second X h) y = r2 X (λ n. (let m = number_left _ X n h in no_slack (from_second _ _ _ _ X m.0 m.1 m.2 m.3 y)), h) y

      by_right : (Y : Tree) → InSum (tree_at Ts p.third) (tree_at Ts p.fourth) (right (tree_at Ts p.third)) (right (tree_at Ts p.fourth)) Y → Y ≤ᵍ tree_at Ts p.first +ᵍ tree_at Ts p.second → ⊥
      by_right _ (in_first X h) y = r3 X (λ n. (let m = number_right _ X n h in no_slack (from_third _ _ _ _ X m.0 m.1 m.2 m.3 y)), h) y
      by_right _ (in_second X h) y = r4 X (λ n. (let m = number_right _ X n h in no_slack (from_fourth _ _ _ _ X m.0 m.1 m.2 m.3 y)), h) y

-- where a move counters, it isn't
one_counters : (Ts : List Tree) (p : SumPair) (at : Place) (X : Tree) → Has (options_at at (tree_at Ts (game_at p at))) X → Counters Ts p at X → IsSumWithin Ts p → ⊥
one_counters Ts p First X h y w = (le-out _ _ w).from_left (X +ᵍ tree_at Ts p.second) (left_in_first (tree_at Ts p.first) (tree_at Ts p.second) X h) y
one_counters Ts p Second X h y w = (le-out _ _ w).from_left (tree_at Ts p.first +ᵍ X) (left_in_second (tree_at Ts p.first) (tree_at Ts p.second) X h) y
one_counters Ts p Third X h y w = (le-out _ _ w).from_right (X +ᵍ tree_at Ts p.fourth) (right_in_first (tree_at Ts p.third) (tree_at Ts p.fourth) X h) y
one_counters Ts p Fourth X h y w = (le-out _ _ w).from_right (tree_at Ts p.third +ᵍ X) (right_in_second (tree_at Ts p.third) (tree_at Ts p.fourth) X h) y

-- the comparison after a move, by its ids
counters-as : (Ts : List Tree) (p : SumPair) (at : Place) (x : ℕ) → IsSumWithin Ts (counter_by p at x) ↔ Counters Ts p at (tree_at Ts x)
counters-as Ts p First x = (λ y. y, λ y. y)
counters-as Ts p Second x = (λ y. y, λ y. y)
counters-as Ts p Third x = (λ y. y, λ y. y)
counters-as Ts p Fourth x = (λ y. y, λ y. y)

-- which is of smaller ids
pub counter-lighter : (p : SumPair) (at : Place) (x : ℕ) → x < game_at p at → weight (counter_by p at x) < weight p
counter-lighter p First x l = omega (arith, l)
counter-lighter p Second x l = omega (arith, l)
counter-lighter p Third x l = omega (arith, l)
counter-lighter p Fourth x l = omega (arith, l)

-- the options listed are the moves
pub listed-moves : (Ts : List Tree) (options : Tree → Trees) (id : ℕ) (is : List ℕ) → AreBelow id is → IsAscending is → (IsNumberTree (tree_at Ts id) → ⊥) → options (tree_at Ts id) ≡ sorted (pick Ts is) → AreMoves Ts options id is
listed-moves Ts options id is below ascends no_number e = record {
  below = below;
  ascends = ascends;
  has = λ X. (λ h. (no_number, subst (λ t. Has t X) (sym e) (has-sorted (pick Ts is) X h)), λ m. sorted-has (pick Ts is) X (subst (λ t. Has t X) e m.1));
}

module _ (Ts : List Tree) (p : SumPair) (at : Place) (is : List ℕ) (moves : AreMoves Ts (options_at at) (game_at p at) is) where
  pub countered : (j : ℕ) → j < length is → IsSumWithin Ts (counter_by p at (get_or is j 0)) → IsSumWithin Ts p → ⊥
  countered j l y = one_counters Ts p at (tree_at Ts (get_or is j 0)) ((moves.has (tree_at Ts (get_or is j 0))).0 (pick-has Ts is j l)).1 ((counters-as Ts p at (get_or is j 0)).0 y)

  pub none-counter : ((j : ℕ) → j < length is → IsSumWithin Ts (counter_by p at (get_or is j 0)) → ⊥) → Resists Ts p at
  none-counter f X m y = none-list Ts is (Counters Ts p at) (λ j l z. f j l ((counters-as Ts p at (get_or is j 0)).1 z)) X ((moves.has X).1 m) y

  -- none of the moves to smaller ids than that at a place of the list counters, where none of those before it does
  pub resists_below : AreDistinct Ts → game_at p at < length Ts → (k : ℕ) → k < length is → ((j : ℕ) → j < k → IsSumWithin Ts (counter_by p at (get_or is j 0)) → ⊥)
      → (i : ℕ) → i < get_or is k 0 → IsMoveIn (options_at at) (tree_at Ts (game_at p at)) (tree_at Ts i) → Counters Ts p at (tree_at Ts i) → ⊥
  resists_below distinct stored k l f i b m y =
      let (j, inside, same) = has-pick Ts is (tree_at Ts i) ((moves.has (tree_at Ts i)).1 m) in
      let e : i ≡ get_or is j 0 = distinct i (get_or is j 0) (omega (arith, b, moves.below k l, stored)) (omega (arith, moves.below j inside, stored)) same in
      elim (cases_lt j k) [
        | inl d ↦ f j d ((counters-as Ts p at (get_or is j 0)).1 (subst (λ n. Counters Ts p at (tree_at Ts n)) e y))
        | inr d ↦ elim (cases_lt k j) [
          | inl u ↦ absurd (omega (arith, moves.ascends k j u inside, b, e))
          | inr u ↦ (let q : k ≡ j = omega (arith, d, u) in absurd (omega (arith, b, e, ap (λ n. get_or is n 0) q)))
        ]
      ]

  -- a move that was found not to counter
  pub not_counter : (j : ℕ) → j < length is → (IsMoveIn (options_at at) (tree_at Ts (game_at p at)) (tree_at Ts (get_or is j 0)) → Counters Ts p at (tree_at Ts (get_or is j 0)) → ⊥) → IsSumWithin Ts (counter_by p at (get_or is j 0)) → ⊥
  not_counter j l f y = f ((moves.has (tree_at Ts (get_or is j 0))).0 (pick-has Ts is j l)) ((counters-as Ts p at (get_or is j 0)).0 y)

pub stored_at : (Ts : List Tree) (p : SumPair) (at : Place) → AreStored Ts p → game_at p at < length Ts
stored_at Ts p First s = s.first_id
stored_at Ts p Second s = s.second_id
stored_at Ts p Third s = s.third_id
stored_at Ts p Fourth s = s.fourth_id

-- places by how many come before
abbrev place_of : ℕ → Place
place_of zero = First
place_of (suc zero) = Second
place_of (suc (suc zero)) = Third
place_of (suc (suc (suc n))) = Fourth

place-rank : (at : Place) → place_of (rank at) ≡ at
place-rank First = refl
place-rank Second = refl
place-rank Third = refl
place-rank Fourth = refl

pub rank-most : (at : Place) → rank at < 4
rank-most First = omega arith
rank-most Second = omega arith
rank-most Third = omega arith
rank-most Fourth = omega arith

resists-at : (Ts : List Tree) (p : SumPair) (a b : Place) → rank a ≡ rank b → Resists Ts p a → Resists Ts p b
resists-at Ts p a b e r = subst (Resists Ts p) (sym (place-rank a) ∙ ap place_of e ∙ place-rank b) r

pub begun_resisted : (Ts : List Tree) (p : SumPair) → HasResisted Ts (record { pair = p; place = First; from = 0 })
begun_resisted Ts p = record { places = λ at l. absurd (omega (arith, l)); below = λ i l. absurd (omega (arith, l)) }

-- no move in the game at the question's place counters either
module _ (Ts : List Tree) (q : SumQuestion) (so_far : HasResisted Ts q) (here : Resists Ts q.pair q.place) where
  up_to : (at : Place) → rank at < suc (rank q.place) → Resists Ts q.pair at
  up_to at l = elim (cases_lt (rank at) (rank q.place)) [
    | inl d ↦ so_far.places at d
    | inr d ↦ resists-at Ts q.pair q.place at (omega (arith, d, l)) here
  ]

  pub resisted_last : AreCanonical Ts → AreStored Ts q.pair → (AreNumbers Ts q.pair → ⊥) → rank q.place ≡ 3 → IsSumWithin Ts q.pair
  resisted_last canonical ids hot e = let all : (at : Place) → Resists Ts q.pair at = λ at. up_to at (omega (arith, e, rank-most at)) in resisted Ts q.pair canonical ids hot (all First) (all Second) (all Third) (all Fourth)
