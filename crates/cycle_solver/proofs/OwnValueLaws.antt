-- Where a pairing carries one opening onto another, trees with budgets are carried over: they are equal, or the one is the negative of the
-- other. So are budgets at which a region is steady, and values.
use Rattle.std.proofs.Common.{◌≡◌, ℕ, zero, suc, pos, neg_ℤ, ◌+◌, ◌*◌, ◌^◌, inl, inr, refl, sym, ap, ◌∙◌, subst, arith, List, length, Bool, true, false}
use Rattle.std.proofs.Math.IntN.{neg_ℤ-neg_ℤ}
use Rattle.go_grid.specs.declared.grid.Cell.{Cell}
use Rattle.go_grid.specs.declared.grid.Colour.{Colour}
use Rattle.go_grid.specs.declared.grid.Colour.TheVariants.{Black, White}
use Rattle.go_grid.specs.declared.region.Touch.{Touch}
use Rattle.local_graph.specs.LocalGraph.{IsReachable}
use Rattle.short_games.specs.Tree.{Tree, node, none, left, right, Has, neg}
use Rattle.short_games.specs.Number.{num}
use Rattle.short_games.specs.Order.{◌≡ᵍ◌}
use Rattle.short_games.specs.Sum.{◌+ᵍ◌}
use Rattle.short_games.specs.TextOrder.{IsCanonicalFor}
use Rattle.short_games.proofs.NumberLaws.{neg-num}
use Rattle.short_games.proofs.OrderLaws.{same-path, same-refl, same-sym, same-trans}
use Rattle.short_games.proofs.ReductionLaws.{canonical-same}
use Rattle.short_games.proofs.SumLaws.{has-neg_each, neg_each-has, neg-le, neg-left, neg-right, neg-plus, same-plus}
use Rattle.game_players.specs.Players.{gain, options}
use Rattle.local_trees.specs.BudgetTree.{Budgeted, IsBudgetStep, IsBudgetTreeWithin, UsesBudget}
use Rattle.local_trees.specs.LocalGame.{Step}
use Rattle.local_trees.specs.Steady.{IsBudgetValue, IsLeastSteady, IsSteady}
use Rattle.local_trees.proofs.BudgetTreeLaws.{budget_tree, enough, one_budget_tree}
use Rattle.local_trees.proofs.TreeLaws.{same_options}
use Rattle.region_book.specs.Shape.{colour_after}
use Rattle.region_book.proofs.SymmetryLaws.{colour_back}
use Rattle.endgame_solver.specs.ShapeValues.{game_after}
use Rattle.endgame_solver.proofs.CarriedLaws.{Matched, matched_back, matched_one, move_matched, reach_matched}

-- Options and gains of a game, or of its negative.
after-options : (colours : Bool) (c : Colour) (H Z : Tree) → Has (options (colour_after colours c) H) Z → Has (options c (game_after colours H)) (game_after colours Z)
after-options false c H Z h = h
after-options true Black H Z h = subst (λ t. Has t (neg Z)) (sym (neg-left H)) (has-neg_each (right H) Z h)
after-options true White H Z h = subst (λ t. Has t (neg Z)) (sym (neg-right H)) (has-neg_each (left H) Z h)

options-after : (colours : Bool) (c : Colour) (H X : Tree) → Has (options c (game_after colours H)) X
    → (Z : Tree) × Has (options (colour_after colours c) H) Z × (X ≡ game_after colours Z)
options-after false c H X h = (X, h, refl)
options-after true Black H X h = neg_each-has (right H) X (subst (λ t. Has t X) (neg-left H) h)
options-after true White H X h = neg_each-has (left H) X (subst (λ t. Has t X) (neg-right H) h)

gain-after : (colours : Bool) (c : Colour) (Y : Tree) (n : ℕ) → game_after colours (Y +ᵍ gain (colour_after colours c) n) ≡ game_after colours Y +ᵍ gain c n
gain-after false c Y n = refl
gain-after true Black Y n = neg-plus Y (gain White n) ∙ ap (λ t. neg Y +ᵍ t) (neg-num 0 (neg_ℤ (pos n)) ∙ ap (num 0) (neg_ℤ-neg_ℤ (pos n)))
gain-after true White Y n = neg-plus Y (gain Black n) ∙ ap (λ t. neg Y +ᵍ t) (neg-num 0 (pos n))

none-after : (colours : Bool) → node none none ≡ game_after colours (node none none)
unfolding neg
none-after false = refl
none-after true = refl

pub after-same : (colours : Bool) (G V : Tree) → G ≡ᵍ V → game_after colours G ≡ᵍ game_after colours V
after-same false G V same = same
after-same true G V same = (neg-le V G same.1, neg-le G V same.0)

-- the colour twice exchanged is itself
pub colour_twice : (P : Colour → Type 0) (colours : Bool) (c : Colour) → P (colour_after colours (colour_after colours c)) → P c
colour_twice P colours c = subst P (colour_back colours c)

-- a position at one place with its budget
abbrev with_budget : List Cell → ℕ → Budgeted
with_budget cells budget = record { cells = cells; budget = budget }

module _ (touch touch' : List Touch) {Paired : ℕ → ℕ → Type 0} {colours : Bool} where
  back_over : {a b a' b' : List Cell} → Matched touch touch' Paired colours a b → Matched touch touch' Paired colours a' b'
      → IsReachable touch a' a → IsReachable touch' b' b
  back_over {b' = b'} m m' reach =
      let (end, reached, last) = reach_matched m' _ reach in
      subst (IsReachable touch' b') (matched_one last m) reached

module _ (touch touch' : List Touch) {Paired : ℕ → ℕ → Type 0} {colours : Bool} where
  -- a step of one position, and the paired one of the other, which takes as many stones and uses up as much budget
  step_over : (owner c : Colour) (j : ℕ) {a b : List Cell} → Matched touch touch' Paired colours a b → (x : Step Budgeted)
      → IsBudgetStep touch owner c (with_budget a j) x
      → (next : List Cell) × IsBudgetStep touch' (colour_after colours owner) (colour_after colours c) (with_budget b j)
      (record { to = with_budget next x.to.budget; taken = x.taken }) × Matched touch touch' Paired colours x.to.cells next
  step_over owner c j {a} {b} m x ((p, move, number), after) =
      let w = move_matched m x.to.cells c p move in
      let number' = w.number x.taken number in
      let owners : colour_after colours c ≡ colour_after colours owner → c ≡ owner =
      λ e. sym (colour_back colours c) ∙ ap (colour_after colours) e ∙ colour_back colours owner in
      let back : UsesBudget touch' (colour_after colours owner) (colour_after colours c) b w.next → UsesBudget touch owner c a x.to.cells =
      λ (own, (n, some, taken), returns). (
        owners own,
        (n, some, omega (arith, number, number', taken)),
        back_over touch' touch (matched_back m) (matched_back w.matched) returns,
      ) in (
        w.next,
        (
          (w.place, w.move, number'),
          elim after [
            | inl ((own, (n, some, taken), returns), less) ↦
                inl ((ap (colour_after colours) own, (n, some, w.number n taken), back_over touch touch' m w.matched returns), less)
            | inr (free, same) ↦ inr (λ uses. free (back uses), same)
          ],
        ),
        w.matched,
      )

module _ (touch touch' : List Touch) {Paired : ℕ → ℕ → Type 0} {colours : Bool} where
  -- a step of the second position, and the paired one of the first
  step_back : (owner c : Colour) (j : ℕ) {a b : List Cell} → Matched touch touch' Paired colours a b → (x : Step Budgeted)
      → IsBudgetStep touch' (colour_after colours owner) (colour_after colours c) (with_budget b j) x
      → (before : List Cell) × IsBudgetStep touch owner c (with_budget a j) (record { to = with_budget before x.to.budget; taken = x.taken })
      × Matched touch touch' Paired colours before x.to.cells
  step_back owner c j {a} m x step =
      let (before, own, w) = step_over touch' touch (colour_after colours owner) (colour_after colours c) j (matched_back m) x step in
      let y : Step Budgeted = record { to = with_budget before x.to.budget; taken = x.taken } in (
        before,
        colour_twice (λ o. IsBudgetStep touch o c (with_budget a j) y) colours owner
            (colour_twice (λ d. IsBudgetStep touch (colour_after colours (colour_after colours owner)) d (with_budget a j) y) colours c own),
        matched_back w,
      )

  pub trees_over : (owner : Colour) (n j : ℕ) {a b : List Cell} → Matched touch touch' Paired colours a b → (G H : Tree)
      → IsBudgetTreeWithin touch owner n j a G → IsBudgetTreeWithin touch' (colour_after colours owner) n j b H → G ≡ᵍ game_after colours H
  trees_over owner zero j m G H g k = same-path _ _ (g ∙ none-after colours ∙ ap (game_after colours) (sym k))
  trees_over owner (suc n) j m G H g k = same_options G (game_after colours H)
      (λ c X x.
      let (y, (Y, step, tree, is)) = (g c).0 X x in
      let (next, step', w) = step_over touch touch' owner c j m y step in
      let (Y', tree', has) = (k (colour_after colours c)).1 (record { to = with_budget next y.to.budget; taken = y.taken }) step' in (
        game_after colours (Y' +ᵍ gain (colour_after colours c) y.taken),
        after-options colours c H (Y' +ᵍ gain (colour_after colours c) y.taken) has,
        same-trans _ _ _ (same-path _ _ is)
            (same-trans _ _ _ (same-plus _ _ _ _ (trees_over owner n y.to.budget w Y Y' tree tree') (same-refl (gain c y.taken)))
            (same-path _ _ (sym (gain-after colours c Y' y.taken)))),
      ))
      (λ c X x.
      let (Z, z, is) = options-after colours c H X x in
      let (y, (Y', step, tree', is')) = (k (colour_after colours c)).0 Z z in
      let (before, step', w) = step_back owner c j m y step in
      let (Y, tree, has) = (g c).1 (record { to = with_budget before y.to.budget; taken = y.taken }) step' in (
        Y +ᵍ gain c y.taken,
        has,
        same-sym _ _ (same-trans _ _ _ (same-path _ _ (is ∙ ap (game_after colours) is' ∙ gain-after colours c Y' y.taken))
            (same-plus _ _ _ _ (same-sym _ _ (trees_over owner n y.to.budget w Y Y' tree tree')) (same-refl (gain c y.taken)))),
      ))

module _ (touch touch' : List Touch) {Paired : ℕ → ℕ → Type 0} {colours : Bool} where
  tree_back : (owner : Colour) (n j : ℕ) {a b : List Cell} → Matched touch touch' Paired colours a b → (H G : Tree)
      → IsBudgetTreeWithin touch' (colour_after colours owner) n j b H → IsBudgetTreeWithin touch owner n j a G → H ≡ᵍ game_after colours G
  tree_back owner n j {a} m H G h g =
      trees_over touch' touch (colour_after colours owner) n j (matched_back m) H G h
      (subst (λ o. IsBudgetTreeWithin touch o n j a G) (sym (colour_back colours owner)) g)

  -- a value of a position is carried over: its canonical form, or that of its negative
  pub value_over : {a b : List Cell} → Matched touch touch' Paired colours a b → length b ≡ length a → (owner : Colour) (j : ℕ) (V W : Tree)
      → IsBudgetValue touch owner j a V → IsCanonicalFor (game_after colours V) W → IsBudgetValue touch' (colour_after colours owner) j b W
  value_over {a} {b} m long owner j V W value k =
      let (H, tree) = budget_tree touch' (colour_after colours owner) (enough b j) j b in
      let deep : enough b j ≡ enough a j = ap (λ n. (j + 1) * 3 ^ n) long in
      let same = tree_back owner (enough a j) j m H value.tree
      (subst (λ n. IsBudgetTreeWithin touch' (colour_after colours owner) n j b H) deep tree) value.of_position in
      record {
        tree = H;
        of_position = tree;
        canonical = k.canonical;
        same = same-trans H (game_after colours value.tree) W same
            (same-trans (game_after colours value.tree) (game_after colours V) W (after-same colours value.tree V value.same) (k.under, k.over));
      }

module _ (touch touch' : List Touch) {Paired : ℕ → ℕ → Type 0} {colours : Bool} (opening opening' : List Cell)
    (m : Matched touch touch' Paired colours opening opening') (long : length opening' ≡ length opening) where
  -- positions that are carried over have as many places
  pub same_long : {a b : List Cell} → Matched touch touch' Paired colours a b → length b ≡ length a
  same_long w = omega (arith, w.linked.full, w.linked'.full, m.linked.full, m.linked'.full, long)

  -- a budget at which the first region is steady for a colour is one at which the second is
  pub steady_over : (owner : Colour) (j : ℕ) → IsSteady touch opening owner j → IsSteady touch' opening' (colour_after colours owner) j
  steady_over owner j steady b reach G H g h =
      let (a, reached, back) = reach_matched (matched_back m) b reach in
      let w = matched_back back in
      let (G', g') = budget_tree touch owner (enough a j) j a in
      let (H', h') = budget_tree touch owner (enough a (j + 1)) (j + 1) a in
      let deep : enough b j ≡ enough a j = ap (λ n. (j + 1) * 3 ^ n) (same_long w) in
      let deep' : enough b (j + 1) ≡ enough a (j + 1) = ap (λ n. (j + 1 + 1) * 3 ^ n) (same_long w) in
      let first = tree_back touch touch' owner (enough a j) j w G G'
      (subst (λ n. IsBudgetTreeWithin touch' (colour_after colours owner) n j b G) deep g) g' in
      let second = tree_back touch touch' owner (enough a (j + 1)) (j + 1) w H H'
      (subst (λ n. IsBudgetTreeWithin touch' (colour_after colours owner) n (j + 1) b H) deep' h) h' in
      same-trans G (game_after colours G') H first
      (same-trans (game_after colours G') (game_after colours H') H (after-same colours G' H' (steady a reached G' H' g' h'))
      (same-sym H (game_after colours H') second))

module _ (touch touch' : List Touch) {Paired : ℕ → ℕ → Type 0} {colours : Bool} (opening opening' : List Cell)
    (m : Matched touch touch' Paired colours opening opening') (long : length opening' ≡ length opening) where
  -- and the other way round
  steady_back : (owner : Colour) (j : ℕ) → IsSteady touch' opening' owner j → IsSteady touch opening (colour_after colours owner) j
  steady_back = steady_over touch' touch opening' opening (matched_back m) (sym long)

  -- the least such budget
  pub least_over : (owner : Colour) (j : ℕ) → IsLeastSteady touch opening (colour_after colours owner) j → IsLeastSteady touch' opening' owner j
  least_over owner j least = record {
    steady = colour_twice (λ c. IsSteady touch' opening' c j) colours owner
        (steady_over touch touch' opening opening' m long (colour_after colours owner) j least.steady);
    least = λ k lt steady. least.least k lt (steady_back owner k steady);
  }

-- a position has one value with a budget
pub one_budget_value : (touch : List Touch) (owner : Colour) (j : ℕ) (cells : List Cell) (V W : Tree) → IsBudgetValue touch owner j cells V
    → IsBudgetValue touch owner j cells W → V ≡ W
one_budget_value touch owner j cells V W v w =
    let trees = one_budget_tree touch owner (enough cells j) j cells v.tree w.tree v.of_position w.of_position in
    let same = same-trans V v.tree W (same-sym v.tree V v.same) (same-trans v.tree w.tree W trees w.same) in
    canonical-same V W v.canonical w.canonical same.0 same.1
