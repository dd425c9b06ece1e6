-- Exchanged colours: moves of the one colour become those of the other, and trees with budgets become negatives.
use Rattle.std.proofs.Common.{ℕ, zero, suc, pos, neg_ℤ, ◌+◌, ◌*◌, ◌^◌, ◌≡◌, ◌⊎◌, inl, inr, refl, sym, ap, ap₂, ◌∙◌, subst, arith, List, [], ◌∷◌, map, length, set, cond, Some, count_by}
use Rattle.std.proofs.Math.IntN.{neg_ℤ-neg_ℤ}
use Rattle.std.proofs.Math.ListN.{get_or-map}
use Rattle.std.proofs.lemmas.List.{length-map, map-set}
use Rattle.std.proofs.lemmas.List.Sums.{sum_by-cons}
use Rattle.go_grid.specs.declared.grid.Cell.{Cell}
use Rattle.go_grid.specs.declared.grid.Cell.TheVariants as cell
use Rattle.go_grid.specs.declared.grid.Colour.{Colour}
use Rattle.go_grid.specs.declared.grid.Colour.TheVariants.{Black, White}
use Rattle.go_grid.specs.declared.region.Touch.{Touch}
use Rattle.go_grid.specs.Board.{other, stone}
use Rattle.go_grid.specs.Region.{nothing_near, touch_at}
use Rattle.go_grid.proofs.PathLemmas.{leads_over}
use Rattle.local_play.specs.LocalPlay.{held_at, is_beside, is_stone, with_stone, Holds, IsBeside, IsLinked, IsLocalMove, IsNumberTaken}
use Rattle.local_play.specs.inner.LocalPlay.{InLocalChain, IsFree, IsRemoved}
use Rattle.local_graph.specs.declared.cycle.CycleMove.{CycleMove}
use Rattle.local_graph.specs.LocalGraph.{Plays, IsReachable}
use Rattle.short_games.specs.Number.{num}
use Rattle.short_games.specs.Order.{◌≡ᵍ◌}
use Rattle.short_games.specs.Sum.{◌+ᵍ◌}
use Rattle.short_games.specs.Tree.{Tree, node, none, left, right, Has, neg}
use Rattle.short_games.proofs.NumberLaws.{neg-num}
use Rattle.short_games.proofs.OrderLaws.{same-path, same-refl, same-trans}
use Rattle.short_games.proofs.SumLaws.{has-neg_each, neg_each-has, neg-left, neg-right, neg-plus, same-plus}
use Rattle.game_players.specs.Players.{gain, options}
use Rattle.local_trees.specs.LocalGame.{Step}
use Rattle.local_trees.specs.BudgetTree.{Budgeted, UsesBudget, IsBudgetStep, IsBudgetTreeWithin}
use Rattle.local_trees.specs.BudgetLaws.{exchanged_cell, exchanged_touch, ExchangeNegates}
use Rattle.local_trees.proofs.TreeLaws.{same_options}

other_other : (c : Colour) → other (other c) ≡ c
other_other Black = refl
other_other White = refl

cell_back : (x : Cell) → exchanged_cell (exchanged_cell x) ≡ x
cell_back cell.Empty = refl
cell_back cell.Black = refl
cell_back cell.White = refl

stone_exchanged : (c : Colour) → exchanged_cell (stone c) ≡ stone (other c)
stone_exchanged Black = refl
stone_exchanged White = refl

beside_exchanged : (c : Colour) (t : Touch) → is_beside (exchanged_touch t) (other c) ≡ is_beside t c
beside_exchanged Black t = refl
beside_exchanged White t = refl

-- the second is the first with the colours exchanged
record AreExchanged (a b : List Cell) : Type 0 where
  is : b ≡ map exchanged_cell a

-- what is next to the places, the second is the first with the colours exchanged
record AreNextExchanged (touch touch' : List Touch) : Type 0 where
  is : touch' ≡ map exchanged_touch touch

exchange : (a : List Cell) → AreExchanged a (map exchanged_cell a)
exchange a = record { is = refl }

twice : {X : Type 0} (f : X → X) → ((x : X) → f (f x) ≡ x) → (xs : List X) → map f (map f xs) ≡ xs
twice f back [] = refl
twice f back (x ∷ xs) = ap₂ (λ y ys. y ∷ ys) (back x) (twice f back xs)

exchanged_back : {a b : List Cell} → AreExchanged a b → AreExchanged b a
exchanged_back {a} {b} e = record { is = sym (ap (map exchanged_cell) e.is ∙ twice exchanged_cell cell_back a) }

next_back : {touch touch' : List Touch} → AreNextExchanged touch touch' → AreNextExchanged touch' touch
next_back {touch} {touch'} e = record { is = sym (ap (map exchanged_touch) e.is ∙ twice exchanged_touch (λ t. refl) touch) }

held_exchanged : {a b : List Cell} → AreExchanged a b → (i : ℕ) → held_at b i ≡ exchanged_cell (held_at a i)
held_exchanged {a} {b} e i = ap (λ z. held_at z i) e.is ∙ get_or-map exchanged_cell a i cell.Empty

next_exchanged : {touch touch' : List Touch} → AreNextExchanged touch touch' → (i : ℕ) → touch_at touch' i ≡ exchanged_touch (touch_at touch i)
next_exchanged {touch} {touch'} e i = ap (λ z. touch_at z i) e.is ∙ get_or-map exchanged_touch touch i nothing_near

placed_exchanged : {a b : List Cell} → AreExchanged a b → (c : Colour) (p : ℕ) → AreExchanged (with_stone a p c) (with_stone b p (other c))
placed_exchanged {a} {b} e c p =
    record { is = sym (map-set exchanged_cell a p (stone c) ∙ ap₂ (λ z s. set z p s) (sym e.is) (stone_exchanged c)) }

count_exchanged : (a : List Cell) → count_by is_stone (map exchanged_cell a) ≡ count_by is_stone a
count_exchanged [] = refl
count_exchanged (x ∷ xs) = omega (
  arith,
  count_exchanged xs,
  alike x,
  sum_by-cons (λ z. cond (is_stone z) 1 0) x xs,
  sum_by-cons (λ z. cond (is_stone z) 1 0) (exchanged_cell x) (map exchanged_cell xs),
)
  where
    alike : (x : Cell) → cond {A = ℕ} (is_stone (exchanged_cell x)) 1 0 ≡ cond {A = ℕ} (is_stone x) 1 0
    alike cell.Empty = refl
    alike cell.Black = refl
    alike cell.White = refl

stones_exchanged : {a b : List Cell} → AreExchanged a b → count_by is_stone b ≡ count_by is_stone a
stones_exchanged {a} e = ap (count_by is_stone) e.is ∙ count_exchanged a

number_over : {a b a' b' : List Cell} → AreExchanged a b → AreExchanged a' b' → (n : ℕ) → IsNumberTaken a a' n → IsNumberTaken b b' n
number_over e e' n number = omega (arith, number, stones_exchanged e, stones_exchanged e')

module _ {touch touch' : List Touch} (near : AreNextExchanged touch touch') where
  linked_over : (i j : ℕ) → IsLinked touch i j → IsLinked touch' i j
  linked_over i j = subst (λ t. (t.up ≡ Some j) ⊎ ((t.left ≡ Some j) ⊎ ((t.right ≡ Some j) ⊎ (t.down ≡ Some j)))) (sym (next_exchanged near i))

  beside_over : (c : Colour) (i : ℕ) → IsBeside touch c i → IsBeside touch' (other c) i
  beside_over c i h = ap (λ t. is_beside t (other c)) (next_exchanged near i) ∙ beside_exchanged c (touch_at touch i) ∙ h

  module _ {a b : List Cell} (e : AreExchanged a b) where
    holds_over : (c : Colour) (i : ℕ) → Holds a c i → Holds b (other c) i
    holds_over c i h = held_exchanged e i ∙ ap exchanged_cell h ∙ stone_exchanged c

    empty_over : (i : ℕ) → held_at a i ≡ cell.Empty → held_at b i ≡ cell.Empty
    empty_over i h = held_exchanged e i ∙ ap exchanged_cell h

    chain_over : (c : Colour) (i j : ℕ) → InLocalChain touch a c i j → InLocalChain touch' b (other c) i j
    chain_over c i j = leads_over (IsLinked touch) (IsLinked touch') (Holds a c) (Holds b (other c)) (holds_over c) (λ p q link _. linked_over p q link) i j

    free_over : (c : Colour) (i : ℕ) → IsFree touch a c i → IsFree touch' b (other c) i
    free_over c i (k, chain, breath) = (
      k,
      chain_over c i k chain,
      elim breath [
        | inl (o, link, empty) ↦ inl (o, linked_over k o link, empty_over o empty)
        | inr beside ↦ inr (beside_over c k beside)
      ],
    )

module _ {touch touch' : List Touch} (near : AreNextExchanged touch touch') where
  removed_over : {a b : List Cell} → AreExchanged a b → (p : ℕ) (d : Colour) (j : ℕ) → IsRemoved touch a p d j → IsRemoved touch' b p (other d) j
  removed_over {a} e p d j (i, link, chain, bound) = (
    i,
    linked_over near p i link,
    chain_over near e d i j chain,
    λ free. bound (subst (λ x. IsFree touch a x i) (other_other d) (free_over (next_back near) (exchanged_back e) (other d) i free)),
  )

module _ {touch touch' : List Touch} (near : AreNextExchanged touch touch') where
  move_over : {a b after next : List Cell} → AreExchanged a b → AreExchanged after next → (c : Colour) (p : ℕ) → IsLocalMove touch a c p after
      → IsLocalMove touch' b (other c) p next
  move_over {a} {b} {after} {next} e e' c p move =
      let placed = placed_exchanged e c p in record {
        place = omega (arith, move.place, ap length e.is, length-map a exchanged_cell);
        free = empty_over near e p move.free;
        without = record {
          long = ap length e'.is ∙ length-map after exchanged_cell ∙ move.without.long ∙ sym (ap length placed.is ∙ length-map (with_stone a p c) exchanged_cell);
          gone = λ q gone. empty_over near e' q (move.without.gone q
              (subst (λ d. IsRemoved touch (with_stone a p c) p d q) (other_other (other c))
              (removed_over (next_back near) (exchanged_back placed) p (other (other c)) q gone)));
          kept = λ q stays.
              held_exchanged e' q ∙ ap exchanged_cell (move.without.kept q (λ gone. stays (removed_over near placed p (other c) q gone)))
              ∙ sym (held_exchanged placed q);
        };
        stands = free_over near e' c p move.stands;
      }

  plays_over : (from to : List Cell) (ms : List CycleMove) → Plays touch from ms to → IsReachable touch' (map exchanged_cell from) (map exchanged_cell to)
  plays_over from to [] e = ([], ap (map exchanged_cell) e)
  plays_over from to (m ∷ ms) (next, move, rest) =
      let (ns, plays) = plays_over next to ms rest in
      (record { colour = other m.colour; place = m.place } ∷ ns, (map exchanged_cell next, move_over (exchange from) (exchange next) m.colour m.place move, plays))

  reach_over : {a b a' b' : List Cell} → AreExchanged a b → AreExchanged a' b' → IsReachable touch a a' → IsReachable touch' b b'
  reach_over {a} {b} {a'} {b'} e e' (ms, plays) =
      subst (λ z. IsReachable touch' z b') (sym e.is) (subst (IsReachable touch' (map exchanged_cell a)) (sym e'.is) (plays_over a a' ms plays))

  uses_over : {a b a' b' : List Cell} (owner c : Colour) → AreExchanged a b → AreExchanged a' b' → UsesBudget touch owner c a a'
      → UsesBudget touch' (other owner) (other c) b b'
  uses_over owner c e e' (own, (n, some, number), returns) = (ap other own, (n, some, number_over e e' n number), reach_over e' e returns)

module _ {touch touch' : List Touch} (near : AreNextExchanged touch touch') where
  uses_back : {a b a' b' : List Cell} (owner c : Colour) → AreExchanged a b → AreExchanged a' b' → UsesBudget touch' (other owner) (other c) b b'
      → UsesBudget touch owner c a a'
  uses_back {a} {b} {a'} {b'} owner c e e' u =
      subst (λ o. UsesBudget touch o c a a') (other_other owner) (subst (λ d. UsesBudget touch (other (other owner)) d a a') (other_other c)
      (uses_over (next_back near) (other owner) (other c) (exchanged_back e) (exchanged_back e') u))

  -- a step of the one position is one of the other
  step_over : (owner c : Colour) (j : ℕ) {a b : List Cell} → AreExchanged a b → (x : Step Budgeted)
      → IsBudgetStep touch owner c (record { cells = a; budget = j }) x → (next : List Cell) → AreExchanged x.to.cells next
      → IsBudgetStep touch' (other owner) (other c) (record { cells = b; budget = j }) (record { to = record { cells = next; budget = x.to.budget }; taken = x.taken })
  step_over owner c j e x ((p, move, number), after) next e' = (
    (p, move_over near e e' c p move, number_over e e' x.taken number),
    elim after [
      | inl (u, less) ↦ inl (uses_over near owner c e e' u, less)
      | inr (f, same) ↦ inr (λ u. f (uses_back owner c e e' u), same)
    ],
  )

-- Options and gains of a negative.
option_neg : (c : Colour) (H Z : Tree) → Has (options (other c) H) Z → Has (options c (neg H)) (neg Z)
option_neg Black H Z h = subst (λ t. Has t (neg Z)) (sym (neg-left H)) (has-neg_each (right H) Z h)
option_neg White H Z h = subst (λ t. Has t (neg Z)) (sym (neg-right H)) (has-neg_each (left H) Z h)

neg_option : (c : Colour) (H X : Tree) → Has (options c (neg H)) X → (Z : Tree) × Has (options (other c) H) Z × (X ≡ neg Z)
neg_option Black H X h = neg_each-has (right H) X (subst (λ t. Has t X) (neg-left H) h)
neg_option White H X h = neg_each-has (left H) X (subst (λ t. Has t X) (neg-right H) h)

neg_gain : (c : Colour) (Y : Tree) (n : ℕ) → neg (Y +ᵍ gain (other c) n) ≡ neg Y +ᵍ gain c n
neg_gain Black Y n = neg-plus Y (gain White n) ∙ ap (λ t. neg Y +ᵍ t) (neg-num 0 (neg_ℤ (pos n)) ∙ ap (num 0) (neg_ℤ-neg_ℤ (pos n)))
neg_gain White Y n = neg-plus Y (gain Black n) ∙ ap (λ t. neg Y +ᵍ t) (neg-num 0 (pos n))

neg_none : node none none ≡ neg (node none none)
unfolding neg
neg_none = refl

module _ {touch touch' : List Touch} (near : AreNextExchanged touch touch') (owner : Colour) where
  step_back : (c : Colour) (j : ℕ) {a b : List Cell} → AreExchanged a b → (y : Step Budgeted)
      → IsBudgetStep touch' (other owner) (other c) (record { cells = b; budget = j }) y
      → IsBudgetStep touch owner c (record { cells = a; budget = j }) (record { to = record { cells = map exchanged_cell y.to.cells; budget = y.to.budget }; taken = y.taken })
  step_back c j {a} {b} e y step =
      let x : Step Budgeted = record { to = record { cells = map exchanged_cell y.to.cells; budget = y.to.budget }; taken = y.taken } in
      subst (λ o. IsBudgetStep touch o c (record { cells = a; budget = j }) x) (other_other owner)
      (subst (λ d. IsBudgetStep touch (other (other owner)) d (record { cells = a; budget = j }) x) (other_other c)
      (step_over (next_back near) (other owner) (other c) j (exchanged_back e) y step (map exchanged_cell y.to.cells) (exchange y.to.cells)))

  trees_negated : (n j : ℕ) {a b : List Cell} → AreExchanged a b → (G H : Tree) → IsBudgetTreeWithin touch owner n j a G
      → IsBudgetTreeWithin touch' (other owner) n j b H → G ≡ᵍ neg H
  trees_negated zero j e G H g h = same-path _ _ (g ∙ neg_none ∙ ap neg (sym h))
  trees_negated (suc n) j e G H g h = same_options G (neg H)
      (λ c X i.
      let (x, (Y, step, tree, is)) = (g c).0 X i in
      let next = map exchanged_cell x.to.cells in
      let (Z, tree', has) = (h (other c)).1 _ (step_over near owner c j e x step next (exchange x.to.cells)) in (
        neg (Z +ᵍ gain (other c) x.taken),
        option_neg c H (Z +ᵍ gain (other c) x.taken) has,
        same-trans _ _ _ (same-path _ _ is)
            (same-trans _ _ _ (same-plus _ _ _ _ (trees_negated n x.to.budget (exchange x.to.cells) Y Z tree tree') (same-refl (gain c x.taken)))
            (same-path _ _ (sym (neg_gain c Z x.taken)))),
      ))
      (λ c X i.
      let (W, w, is) = neg_option c H X i in
      let (y, (Z, step, tree', is')) = (h (other c)).0 W w in
      let (Y, tree, has) = (g c).1 _ (step_back c j e y step) in (
        Y +ᵍ gain c y.taken,
        has,
        same-trans _ _ _ (same-plus _ _ _ _ (trees_negated n y.to.budget (exchanged_back (exchange y.to.cells)) Y Z tree tree') (same-refl (gain c y.taken)))
            (same-path _ _ (sym (is ∙ ap neg is' ∙ neg_gain c Z y.taken))),
      ))

pub exchange_negates : ExchangeNegates
exchange_negates touch owner j cells G H g h =
    let deep : (j + 1) * 3 ^ length (map exchanged_cell cells) ≡ (j + 1) * 3 ^ length cells = ap (λ k. (j + 1) * 3 ^ k) (length-map cells exchanged_cell) in
    trees_negated {touch = touch} {touch' = map exchanged_touch touch} (record { is = refl }) owner ((j + 1) * 3 ^ length cells) j (exchange cells) G H g
    (subst (λ n. IsBudgetTreeWithin (map exchanged_touch touch) (other owner) n j (map exchanged_cell cells) H) deep h)
