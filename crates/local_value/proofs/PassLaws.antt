-- One pass over the places of a graph, each after those that its moves lead to, what it gives in the end, and what a refusal on the way means.
use Rattle.std.proofs.Common.{ℕ, suc, ◌+◌, ◌-◌, ◌*◌, ◌^◌, ◌≡◌, ◌<◌, ◌≤◌, inl, refl, sym, ap, ◌∙◌, subst, arith, pos, List, [], ◌∷◌, length, get_or, set, below_more, Contains, unsigned_abs, mul-le-mul_right}
use Rattle.std.proofs.lemmas.Int.{ints}
use Rattle.std.proofs.lemmas.List.{get_or-set_same, get_or-set_other, length-set, get_or_default}
use Rattle.go_grid.specs.declared.grid.Colour.{Colour}
use Rattle.go_grid.specs.Region.{Region}
use Rattle.local_graph.specs.declared.graph.Edge.{Edge}
use Rattle.local_graph.specs.Graph.{Graph}
use Rattle.local_graph.specs.inner.Graph.{edges_at}
use Rattle.short_games.specs.Tree.{Tree, node, none, tree_at}
use Rattle.short_games.specs.Order.{◌≡ᵍ◌, ◌≤ᵍ◌}
use Rattle.short_games.specs.Sum.{◌+ᵍ◌}
use Rattle.short_games.specs.TextOrder.{IsCanonicalFor, TextBefore}
use Rattle.short_games.specs.Number.{number_tree}
use Rattle.game_store.specs.Meaning.{Extends}
use Rattle.short_games.specs.Parts.{HasMoreParts}
use Rattle.short_games.proofs.NumberLaws.{num-zero}
use Rattle.short_games.proofs.ReductionLaws.{number-canonical, same-canonical}
use Rattle.game_canon.specs.Outcomes.{IsCanonicalId, AreWithin, IsCause}
use Rattle.game_players.specs.Players.{gain}
use Rattle.game_canon.proofs.PartLaws.{fewer}
use Rattle.short_games.proofs.OrderLaws.{same-path, same-refl, same-trans}
use Rattle.short_games.proofs.SumLaws.{same-plus}
use Rattle.game_canon.proofs.NumberSizeLaws.{own-number}
use Rattle.local_trees.specs.Ending.{EndsWithin}
use Rattle.local_trees.proofs.GraphMoves.{step_of, steps_of}
use Rattle.local_trees.specs.LocalGame.{Step, StepsTo, tree_within}
use Rattle.local_trees.specs.GraphPlaces.{IsGraphOf, IsPlaceOf}
use Rattle.local_value.specs.Values.{AreValues}
use Rattle.local_value.specs.inner.Valuing.{noted, IsNoted, tree_after, AreWithinAfter, HasEdges, most_units}
use Rattle.local_trees.proofs.MoveLaws.{position_at, taken_less, steps-in, steps-out}
use Rattle.local_trees.proofs.TreeLaws.{place_ends, place_tree, move-option, option-move}
use Rattle.local_value.proofs.OptionsLaws.{no-edges, number-as}
use Rattle.go_grid.specs.declared.grid.Cell.{Cell}
use Rattle.local_graph.proofs.OrderLemmas.{same_place}
use Rattle.local_graph.proofs.PlayLemmas.{plays_long}
use Rattle.short_games.proofs.ExistenceLaws.{canon}
use Rattle.short_games.proofs.TextOrderLaws.{text-order}
use Rattle.game_canon.specs.declared.errors.FormError.{FormError}
use Rattle.game_canon.specs.declared.errors.FormError.TheVariants.{Parts, Bounds, Memory}
use Rattle.game_canon.proofs.ChangeLaws.{tree-number}
use Rattle.game_canon.proofs.CanonicalFormLaws.{made-no_number}
use Rattle.local_trees.specs.PositionTree.{IsValueOf}
use Rattle.local_value.specs.Refusals.{IsValueAt, IsValueRefusal}
use Rattle.local_graph.specs.declared.graph.TheConstants.{MOST_POSITIONS}

-- the edges of a place as steps, and the tree of the place, cut off after n moves
abbrev edge_steps : Graph → Colour → ℕ → List (Step ℕ)
edge_steps g c i = steps_of ℕ (λ j. j) c (edges_at g.edges i)

abbrev graph_tree : Graph → ℕ → ℕ → Tree
graph_tree g n i = tree_within ℕ (edge_steps g) n i

abbrev place : Graph → ℕ → ℕ
place g k = get_or g.order k 0

-- so large are the numbers of the value of the k-th place at most
abbrev most : Region → ℕ → ℕ
most r k = (suc k * length r.cells) * 2 ^ 60

-- the tree is the value of a place
pub record IsWorth (r : Region) (g : Graph) (limit size i : ℕ) (V : Tree) : Type 0 where
  pub canonical : (n : ℕ) → 3 ^ length r.cells ≤ n → IsCanonicalFor (graph_tree g n i) V
  pub sizes : AreWithin size V
  pub parts : HasMoreParts V limit → ⊥

-- the id that is noted for a place is that of its value
abbrev IsValued : Region → Graph → ℕ → List Tree → List ℕ → ℕ → ℕ → Type 0
IsValued r g limit Ts ids size i = (get_or ids i 0 < length Ts) × IsWorth r g limit size i (noted Ts ids i)

-- the pass over the first k places
pub record IsPass (r : Region) (g : Graph) (limit : ℕ) (Ts : List Tree) (ids : List ℕ) (k : ℕ) : Type 0 where
  pub long : length ids ≡ length g.positions
  pub each : (j : ℕ) → j < k → IsValued r g limit Ts ids (most r j) (place g j)

-- a step of the pass, with the lists as the program lends them: what it asks, what it gives, and what a refusal means
pub record IsCall (r : Region) (g : Graph) (limit : ℕ) (Ts : List Tree) (ids : List ℕ) (k at : ℕ) (es : List Edge) (vs : List ℕ) : Type 0 where
  pub noted : (e : Edge) → Contains es e → IsNoted Ts vs e.next
  pub small : length g.positions ≤ MOST_POSITIONS → AreWithinAfter most_units Ts vs es
  pub step : (Us : List Tree) (id : ℕ) → Extends Ts Us → ((G : Tree) → HasEdges Ts vs es G → IsCanonicalId Us G id)
      → ((b : ℕ) → AreWithinAfter b Ts vs es → AreWithin (b + 2 ^ 60) (tree_at Us id)) → (HasMoreParts (tree_at Us id) limit → ⊥)
      → IsPass r g limit Us (set ids at id) (k + 1)
  pub refused : (e : FormError) → ((G : Tree) → HasEdges Ts vs es G → IsCause G limit e) → IsValueRefusal r g limit e

-- sums of sizes
room : (j k c t x : ℕ) → j < k → t < c → x ≤ (suc j * c) * 2 ^ 60 → x + t * 2 ^ 60 ≤ (k * c + (c - 1)) * 2 ^ 60
room j k c t x lt less le = let m : suc j * c ≤ k * c = mul-le-mul_right c (omega (arith, lt)) in omega (arith, m, le, less)

module _ {r : Region} {g : Graph} (of : IsGraphOf r g) where
  place_inside : (k : ℕ) → k < length g.order → place g k < length g.positions
  place_inside k lt = omega (arith, of.order.inside k lt, of.graph.beside)

  -- places are as many as positions at most
  pub order_short : length g.order ≤ length g.positions
  order_short =
      let le = fewer (length g.order) (length g.edges) (λ j i. get_or g.order j 0 ≡ i)
      (λ j lt. (get_or g.order j 0, of.order.inside j lt, refl))
      (λ i j k li lj e f. same_place g.order i j of.order.once li lj (e ∙ sym f)) in
      omega (arith, le, of.graph.beside)

  deep : (i : ℕ) (cells : List Cell) → IsPlaceOf r g i cells → 3 ^ length r.cells ≤ 3 ^ length cells
  deep i cells has =
      let long : length r.cells ≡ length cells = sym (plays_long r.touch r.cells cells has.reachable.0 has.reachable.1) in
      subst (λ m. 3 ^ length r.cells ≤ 3 ^ m) long (omega arith)

  -- the canonical tree of a place's tree is the value of its position
  value_of : (i : ℕ) (cells : List Cell) (V : Tree) → IsPlaceOf r g i cells → IsCanonicalFor (graph_tree g (3 ^ length cells) i) V → IsValueOf r.touch cells V
  value_of i cells V has k = record {
    tree = graph_tree g (3 ^ length cells) i;
    of_position = place_tree ℕ (λ j. j) (edge_steps g) r g of (λ c j. refl) (3 ^ length cells) i cells has;
    canonical = k.canonical;
    same = (k.under, k.over);
  }

  module _ {limit : ℕ} {Ts : List Tree} {ids : List ℕ} {k : ℕ} (pass : IsPass r g limit Ts ids k) where
    module _ (lt : k < length g.order) where
      abbrev es : List Edge
      es = edges_at g.edges (place g k)

      -- an edge of the place leads to an earlier one
      earlier : (e : Edge) → Contains es e → (j : ℕ) × (j < k) × (e.next < length ids) × IsValued r g limit Ts ids (most r j) e.next
      earlier e among =
          let (j, before, at) = of.order.ends_first k e lt among in
          let inside : place g j < length ids = omega (arith, place_inside j (omega (arith, before, lt)), pass.long) in
          (j, before, subst (λ i. i < length ids) at inside, subst (IsValued r g limit Ts ids (most r j)) at (pass.each j before))

      edges_within : AreWithinAfter ((k * length r.cells + (length r.cells - 1)) * 2 ^ 60) Ts ids es
      edges_within e among x n =
          let (j, before, short, v) = earlier e among in
          room j k (length r.cells) e.taken (unsigned_abs x) before (taken_less r g of (place g k) e among) (v.1.sizes x n)

      small : length g.positions ≤ MOST_POSITIONS → AreWithinAfter most_units Ts ids es
      small few e among x n =
          let size = edges_within e among x n in
          let most : k * length r.cells ≤ MOST_POSITIONS * length r.cells = mul-le-mul_right (length r.cells) (omega (arith, lt, order_short, few)) in
          omega (arith, size, most, of.few)

      next_same : (n : ℕ) → 3 ^ length r.cells ≤ n → (e : Edge) → Contains es e → graph_tree g n e.next ≡ᵍ noted Ts ids e.next
      next_same n long e among = let (j, before, short, v) = earlier e among in let c = v.1.canonical n long in (c.under, c.over)

      ends : (n : ℕ) → 3 ^ length r.cells ≤ n → EndsWithin ℕ (StepsTo ℕ (edge_steps g)) n (place g k)
      ends n long =
          let (cells, has) = position_at r g of (place g k) (place_inside k lt) in
          place_ends ℕ (λ j. j) (edge_steps g) r g of (λ c i. refl) n (place g k) cells has long

      -- the options of the place's tree are those after its edges
      has_edges : (n : ℕ) → 3 ^ length r.cells ≤ n → HasEdges Ts ids es (graph_tree g n (place g k))
      has_edges n long =
          let summed : (e : Edge) → Contains es e → (graph_tree g n e.next +ᵍ gain e.colour e.taken) ≡ᵍ tree_after Ts ids e = λ e among.
          same-plus _ _ _ _ (next_same n long e among) (same-refl (gain e.colour e.taken)) in record {
            from = λ c X h.
                let (x, among, is) = option-move ℕ (edge_steps g) c n (place g k) X (ends n long) h in
                let s = steps-out ℕ (λ j. j) c es x among in
                let there : X ≡ graph_tree g n s.edge.next +ᵍ gain s.edge.colour s.edge.taken =
                is ∙ ap (λ y. graph_tree g n y.to +ᵍ gain c y.taken) (sym s.is)
                ∙ ap (λ d. graph_tree g n s.edge.next +ᵍ gain d s.edge.taken) (sym s.colour) in
                (s.edge, s.among, s.colour, same-trans _ _ _ (same-path _ _ there) (summed s.edge s.among));
            to = λ e among. (
              graph_tree g n e.next +ᵍ gain e.colour e.taken,
              move-option ℕ (edge_steps g) e.colour n (place g k) (step_of ℕ (λ j. j) e) (ends n long)
                  (steps-in ℕ (λ j. j) e.colour es e among refl),
              summed e among,
            );
          }

      module _ (Us : List Tree) (id : ℕ) (kept : Extends Ts Us) (value : (G : Tree) → HasEdges Ts ids es G → IsCanonicalId Us G id)
          (sizes : (b : ℕ) → AreWithinAfter b Ts ids es → AreWithin (b + 2 ^ 60) (tree_at Us id)) (parts : HasMoreParts (tree_at Us id) limit → ⊥) where
        -- the numbers of a place without edges are 0, and a place with one has a point
        within : AreWithin (most r k) (tree_at Us id)
        within x n = at (edges_at g.edges (place g k)) refl
          where
            at : (xs : List Edge) → edges_at g.edges (place g k) ≡ xs → unsigned_abs x ≤ most r k
            at [] e =
                let empty = value (node none none) (subst (λ z. HasEdges Ts ids z (node none none)) (sym e) (no-edges Ts ids)) in
                let zero' : IsCanonicalFor (number_tree (pos 0)) (tree_at Us id) = subst (λ t. IsCanonicalFor t (tree_at Us id)) (sym (num-zero 60)) empty.1 in
                let same = same-refl (number_tree (pos 0)) in
                let zero-tree = same-canonical (number_tree (pos 0)) _ _ zero'
                record { canonical = number-canonical 60 (pos 0); under = same.0; over = same.1 } in
                let own = own-number (tree_at Us id) (pos 0) x zero-tree n in
                omega (arith, ints, own)
            at (e ∷ xs) same =
                let some = taken_less r g of (place g k) e (subst (λ z. Contains z e) (sym same) (0, omega arith, refl)) in
                let size = sizes _ edges_within x n in
                omega (arith, some, size)

        now : IsValued r g limit Us (set ids (place g k) id) (most r k) (place g k)
        now =
            let e : get_or (set ids (place g k) id) (place g k) 0 ≡ id = get_or-set_same ids (place g k) id 0 (omega (arith, place_inside k lt, pass.long)) in (
              omega (arith, e, (value _ (has_edges (3 ^ length r.cells) (omega arith))).0),
              subst (IsWorth r g limit (most r k) (place g k)) (ap (tree_at Us) (sym e))
                  record { canonical = λ n long. (value _ (has_edges n long)).1; sizes = within; parts = parts },
            )

        before : (j : ℕ) → j < k → IsValued r g limit Us (set ids (place g k) id) (most r j) (place g j)
        before j less =
            let v = pass.each j less in
            let e : get_or (set ids (place g k) id) (place g j) 0 ≡ get_or ids (place g j) 0 = get_or-set_other ids (place g k) (place g j) id 0 (of.order.once j k 0 less lt) in (
              omega (arith, e, v.0, kept.longer),
              subst (IsWorth r g limit (most r j) (place g j)) (sym (ap (tree_at Us) e ∙ kept.same (get_or ids (place g j) 0) v.0)) v.1,
            )

        pass-step : IsPass r g limit Us (set ids (place g k) id) (k + 1)
        pass-step = record {
          long = length-set ids (place g k) id ∙ pass.long;
          each = below_more (λ j. IsValued r g limit Us (set ids (place g k) id) (most r j) (place g j)) k before now;
        }

      -- a place's form is refused for its value
      pass-refused : (e : FormError) → ((G : Tree) → HasEdges Ts ids es G → IsCause G limit e) → IsValueRefusal r g limit e
      pass-refused e cause =
          let (cells, has) = position_at r g of (place g k) (place_inside k lt) in
          let n = 3 ^ length cells in
          let c = canon TextBefore text-order.total (graph_tree g n (place g k)) in
          let k' : IsCanonicalFor (graph_tree g n (place g k)) c.tree = record { canonical = c.canonical; under = c.under; over = c.over } in
          refusal (graph_tree g n (place g k)) c.tree e (record { cells = cells; place = has; value = value_of (place g k) cells c.tree has k' }) k'
          (cause (graph_tree g n (place g k)) (has_edges n (deep (place g k) cells has)))
        where
          refusal : (G V : Tree) (e : FormError) → IsValueAt r g (place g k) V → IsCanonicalFor G V → IsCause G limit e → IsValueRefusal r g limit e
          refusal G V Parts at c w = (place g k, V, at, made-no_number G V w.0 c, w.1 V c)
          refusal G V Bounds at c w = (
            place g k,
            V,
            at,
            (
              V,
              tree-number V c.canonical (number-as G V (c.under, c.over) w.0),
              inl refl,
              λ u b e. w.1 u b (subst (λ t. G ≤ᵍ t) e c.under) (subst (λ t. t ≤ᵍ G) e c.over),
            ),
          )
          refusal G V (Memory cause) at c w = tt

    pub call : {order : List ℕ} {xs : List Edge} {vs : List ℕ} → order ≡ g.order → xs ≡ edges_at g.edges (get_or order k 0) → vs ≡ ids → k < length order
        → IsCall r g limit Ts ids k (get_or order k 0) xs vs
    call {order} o s v short =
        let lt : k < length g.order = subst (λ z. k < length z) o short in
        rw (v, s, o) record {
          noted = λ e among. let (j, before, inside, w) = earlier lt e among in (inside, w.0);
          small = small lt;
          step = pass-step lt;
          refused = pass-refused lt;
        }

    -- what a pass over all places gives
    module _ {order : List ℕ} (o : order ≡ g.order) (done : length order ≤ k) where
      valued : (i : ℕ) → i < length ids → (j : ℕ) × (j < length g.order) × IsValued r g limit Ts ids (most r j) i
      valued i lt =
          let (j, short, at) = of.order.every i (omega (arith, lt, pass.long, of.graph.beside)) in
          let there = get_or_default g.order j 0 i short ∙ at in
          (j, short, subst (IsValued r g limit Ts ids (most r j)) there (pass.each j (omega (arith, short, done, ap (λ (z : List ℕ). length z) o))))

      pub pass-values : AreValues r g Ts ids
      pass-values = record {
        long = pass.long;
        known = λ i lt. (valued i lt).2.0;
        each = λ i cells has. (
            let v = (valued i (omega (arith, has.inside, pass.long))).2 in
            value_of i cells (noted Ts ids i) has (v.1.canonical (3 ^ length cells) (deep i cells has))
            );
      }

      pub pass-sizes : (i : ℕ) → i < length ids → AreWithin ((length g.positions * length r.cells) * 2 ^ 60) (noted Ts ids i)
      pass-sizes i lt x n =
          let (j, short, v) = valued i lt in
          let size = v.1.sizes x n in
          let more : suc j * length r.cells ≤ length g.positions * length r.cells = mul-le-mul_right (length r.cells) (omega (arith, short, order_short)) in
          omega (arith, size, more)

      pub pass-parts : (i : ℕ) → i < length ids → HasMoreParts (noted Ts ids i) limit → ⊥
      pass-parts i lt = (valued i lt).2.1.parts
