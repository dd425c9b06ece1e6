-- One pass over the places of a graph: the values with a budget, from those with one less.
use Rattle.std.proofs.Common.{ℕ, suc, ◌+◌, ◌-◌, ◌*◌, ◌^◌, ◌≡◌, ◌≢◌, ◌<◌, ◌≤◌, ◌⊎◌, ◌↔◌, inl, inr, refl, sym, ap, ap₂, ◌∙◌, subst, arith, List, [], ◌++◌, take, length, length-append, get_or, slice_index_or, set, Bool, true, false, Option, None, Some, Contains, ℤ, unsigned_abs, mul-le-mul_right, below_more}
use Rattle.std.proofs.Math.Nat.{add-mul, one-mul}
use Rattle.std.proofs.lemmas.Bool.{true≢false, cases_lt}
use Rattle.std.proofs.lemmas.List.{get_or_append_left, get_or-set_same, get_or-set_other, get_or-append_right, get_or-take, get_or_default, length-set, length-take}
use Rattle.go_grid.specs.declared.grid.Cell.{Cell}
use Rattle.go_grid.specs.declared.grid.Colour.{Colour}
use Rattle.go_grid.specs.Region.{Region}
use Rattle.local_graph.specs.declared.graph.Edge.{Edge}
use Rattle.local_graph.specs.declared.graph.TheConstants.{MOST_POSITIONS}
use Rattle.local_graph.specs.inner.Graph.{edges_at}
use Rattle.local_graph.specs.ReturnGraph.{ReturnGraph, order_for, IsReturningCaptureAt}
use Rattle.local_graph.proofs.OrderLemmas.{same_place}
use Rattle.local_graph.proofs.PlayLemmas.{plays_long}
use Rattle.local_graph.proofs.ReturnGraphLemmas.{capture_at}
use Rattle.short_games.specs.Tree.{Tree, Has, tree_at}
use Rattle.short_games.specs.Order.{◌≡ᵍ◌, ◌≤ᵍ◌}
use Rattle.short_games.specs.Sum.{◌+ᵍ◌}
use Rattle.short_games.specs.TextOrder.{IsCanonicalFor, TextBefore}
use Rattle.short_games.specs.Parts.{HasMoreParts, IsNumberOf}
use Rattle.short_games.proofs.ExistenceLaws.{canon}
use Rattle.short_games.proofs.OrderLaws.{same-path, same-sym, same-trans}
use Rattle.short_games.proofs.SumLaws.{same-plus}
use Rattle.short_games.proofs.TextOrderLaws.{text-order}
use Rattle.game_store.specs.Meaning.{Extends}
use Rattle.game_canon.specs.Outcomes.{AreWithin, IsCause}
use Rattle.game_canon.specs.declared.errors.FormError.{FormError}
use Rattle.game_canon.specs.declared.errors.FormError.TheVariants.{Parts, Bounds, Memory}
use Rattle.game_canon.proofs.CanonicalFormLaws.{made-no_number}
use Rattle.game_canon.proofs.ChangeLaws.{tree-number}
use Rattle.game_canon.proofs.PartLaws.{fewer}
use Rattle.game_players.specs.Players.{gain, options}
use Rattle.local_trees.specs.LocalGame.{Step}
use Rattle.local_trees.specs.GraphPlaces.{IsPlaceOf}
use Rattle.local_trees.specs.BudgetTree.{Budgeted, UsesBudget, IsBudgetAfter, IsBudgetStep, IsBudgetTreeWithin, IsBudgetTree}
use Rattle.local_value.specs.BudgetValues.{IsReturnGraphOf, plain_graph, IsBudgetValueAt, IsPastLimits}
use Rattle.local_value.specs.inner.Layers.{IsFollowed, AreFollowed, IsLayerValue, layer_size, IsLayer, AreLayers, IsBudgetLeft, IsLayerBack, IsRoom, IsUnchanged, IsKept, IsMade}
use Rattle.local_value.specs.inner.Valuing.{noted, IsNoted, tree_after, AreWithinAfter, HasEdges, most_units}
use Rattle.local_trees.proofs.BudgetTreeLaws.{with_budget, enough, budget_tree, budget_depths}
use Rattle.local_trees.proofs.MoveLaws.{IsEdgeFor, graph_move, graph_edge, graph_next, graph_position, graph_taken}
use Rattle.local_value.proofs.OptionsLaws.{canonical-as, number-as}
use Rattle.local_trees.proofs.TreeLaws.{trees-match}

-- One pass over the places.

abbrev place_in : ReturnGraph → Colour → ℕ → ℕ
place_in g owner k = get_or (order_for g owner) k 0

-- the pass over the first m places of the order, with the layer before behind the ids
pub record IsLayerPass (r : Region) (g : ReturnGraph) (owner : Colour) (limit budget : ℕ) (has_budget : Bool) (Ts : List Tree) (ids : List ℕ) (m : ℕ) : Type 0 where
  pub long : length g.positions ≤ length ids
  pub left : IsBudgetLeft has_budget budget
  pub each : (k : ℕ) → k < m → IsLayerValue r g owner limit budget (layer_size r g budget (k + 1)) Ts (place_in g owner k) (get_or ids (place_in g owner k) 0)
  pub before : (k : ℕ) → budget ≡ k + 1 → (i : ℕ) → i < length g.positions → (i + length g.positions < length ids)
      × IsLayerValue r g owner limit k (layer_size r g k (length g.positions)) Ts i (get_or ids (i + length g.positions) 0)
  pub earlier : (k : ℕ) → budget ≡ k + 2 → (i : ℕ) → i < length g.positions → (i + length g.positions + length g.positions < length ids)
      × IsLayerValue r g owner limit k (layer_size r g k (length g.positions)) Ts i (get_or ids (i + length g.positions + length g.positions) 0)
  pub alone : budget ≡ 0 → length ids ≡ length g.positions
  pub with_one : budget ≡ 1 → length ids ≡ length g.positions + length g.positions

-- a store that grows keeps a value
pub value-on : {r : Region} {g : ReturnGraph} {owner : Colour} {limit budget size i id : ℕ} {Ts Us : List Tree} → Extends Ts Us
    → IsLayerValue r g owner limit budget size Ts i id → IsLayerValue r g owner limit budget size Us i id
value-on {limit = limit} {size = size} {id = id} {Ts = Ts} {Us = Us} kept v =
    let same : tree_at Us id ≡ tree_at Ts id = kept.same id v.known in record {
      known = omega (arith, v.known, kept.longer);
      canonical = λ cells has G tree. subst (IsCanonicalFor G) (sym same) (v.canonical cells has G tree);
      sizes = subst (AreWithin size) (sym same) v.sizes;
      parts = subst (λ t. HasMoreParts t limit → ⊥) (sym same) v.parts;
    }

-- a followed edge leads to a place with its value, and the budget that is left
record LeadsOn (r : Region) (g : ReturnGraph) (owner : Colour) (limit budget : ℕ) (Ts : List Tree) (ids : List ℕ) (m i : ℕ) (e f : Edge) : Type 0 where
  left : ℕ
  used : (IsReturningCaptureAt owner g.components i e × (budget ≡ left + 1)) ⊎ (¬ IsReturningCaptureAt owner g.components i e × (budget ≡ left))
  colour : f.colour ≡ e.colour
  taken : f.taken ≡ e.taken
  inside : f.next < length ids
  size : ℕ
  small : size ≤ layer_size r g budget m
  value : IsLayerValue r g owner limit left size Ts e.next (get_or ids f.next 0)

scaled : (a b c : ℕ) → a ≤ b → (a * (c + 1)) * 2 ^ 60 ≤ (b * (c + 1)) * 2 ^ 60
scaled a b c le = mul-le-mul_right (2 ^ 60) (mul-le-mul_right (c + 1) le)

one_more_size : (a c x t : ℕ) → x ≤ (a * (c + 1)) * 2 ^ 60 → t < c → x + t * 2 ^ 60 + 2 ^ 60 ≤ ((a + 1) * (c + 1)) * 2 ^ 60
one_more_size a c x t le less = omega (arith, le, less, add-mul a 1 (c + 1), one-mul (c + 1))

within_units : (j n m c x t : ℕ) → j ≤ 256 → n ≤ MOST_POSITIONS → m ≤ n → c ≤ 32 → x ≤ ((j * n + m) * (c + 1)) * 2 ^ 60 → t < c → x + t * 2 ^ 60 ≤ most_units
within_units j n m c x t budget few short places le less =
    let first : j * n ≤ 256 * n = mul-le-mul_right n budget in
    let all : (j * n + m) * (c + 1) ≤ 257000000 * (c + 1) = mul-le-mul_right (c + 1) (omega (arith, first, few, short)) in
    omega (arith, le, all, places, less)

module _ {r : Region} {g : ReturnGraph} (of : IsReturnGraphOf r g) where
  order_within : (owner : Colour) → length (order_for g owner) ≤ length g.positions
  order_within owner =
      let order = of.orders owner in
      let le = fewer (length (order_for g owner)) (length g.edges) (λ j i. get_or (order_for g owner) j 0 ≡ i)
      (λ j lt. (get_or (order_for g owner) j 0, order.inside j lt, refl))
      (λ i j k li lj e f. same_place (order_for g owner) i j order.once li lj (e ∙ sym f)) in
      omega (arith, le, of.graph.beside)

  deep_enough : (cells : List Cell) (i j n : ℕ) → IsPlaceOf r (plain_graph g) i cells → (j + 1) * 3 ^ length r.cells ≤ n → enough cells j ≤ n
  deep_enough cells i j n has le = subst (λ k. (j + 1) * 3 ^ k ≤ n) (sym (plays_long r.touch r.cells cells has.reachable.0 has.reachable.1)) le

  -- a move uses up budget exactly where its edge is a returning capture
  uses_at : (owner : Colour) (i : ℕ) (e : Edge) (cells next : List Cell) → IsPlaceOf r (plain_graph g) i cells → Contains (edges_at g.edges i) e
      → IsPlaceOf r (plain_graph g) e.next next → IsReturningCaptureAt owner g.components i e ↔ UsesBudget r.touch owner e.colour cells next
  uses_at owner i e cells next has among there =
      capture_at r.touch r.cells g.positions g.edges of.graph g.components of.returns owner i e cells next has.inside among has.reachable there.reachable
      has.packed there.packed

  module _ {owner : Colour} {limit budget : ℕ} {has_budget : Bool} {Ts : List Tree} {ids : List ℕ} {m : ℕ}
      (pass : IsLayerPass r g owner limit budget has_budget Ts ids m) (lt : m < length (order_for g owner)) where
    abbrev pub at : ℕ
    at = place_in g owner m

    at_inside : at < length g.positions
    at_inside = let inside = (of.orders owner).inside m lt in omega (arith, inside, of.graph.beside)

    leads_on : (e f : Edge) → Contains (edges_at g.edges at) e → IsFollowed owner g.components at (length g.positions) has_budget e (Some f)
        → LeadsOn r g owner limit budget Ts ids m at e f
    leads_on e f among (inl (not, same)) =
        let (k, less, is) = (of.orders owner).ends_first m e lt among not in
        let inside = (of.orders owner).inside k (omega (arith, less, lt)) in
        let value = subst (λ i. IsLayerValue r g owner limit budget (layer_size r g budget (k + 1)) Ts i (get_or ids i 0)) is (pass.each k less) in record {
          left = budget;
          used = inr (not, refl);
          colour = ap (λ x. x.colour) same;
          taken = ap (λ x. x.taken) same;
          inside = omega (arith, ap (λ x. x.next) same, is, inside, of.graph.beside, pass.long);
          size = layer_size r g budget (k + 1);
          small = scaled (budget * length g.positions + (k + 1)) (budget * length g.positions + m) (length r.cells) (omega (arith, less));
          value = subst (λ n. IsLayerValue r g owner limit budget (layer_size r g budget (k + 1)) Ts e.next (get_or ids n 0)) (sym (ap (λ x. x.next) same)) value;
        }
    leads_on e f among (inr (captures, (there, same))) =
        let (k, one) = has_left has_budget there pass.left in
        let (cells, has) = graph_position r (plain_graph g) of.graph (place_in g owner m) at_inside in
        let (next, move, edge) = graph_move r (plain_graph g) of.graph (place_in g owner m) cells e has among in
        let (inside, value) = pass.before k one e.next edge.inside in record {
          left = k;
          used = inl (captures, one);
          colour = ap (λ x. x.colour) same;
          taken = ap (λ x. x.taken) same;
          inside = omega (arith, ap (λ x. x.next) same, inside);
          size = layer_size r g k (length g.positions);
          small = scaled (k * length g.positions + length g.positions) (budget * length g.positions + m) (length r.cells)
              (let step : budget * length g.positions ≡ (k + 1) * length g.positions = ap (λ x. x * length g.positions) one in
              omega (arith, step, add-mul k 1 (length g.positions), one-mul (length g.positions)));
          value = subst (λ n. IsLayerValue r g owner limit k (layer_size r g k (length g.positions)) Ts e.next (get_or ids n 0)) (sym (ap (λ x. x.next) same)) value;
        }
      where
        has_left : (b : Bool) → b ≡ true → IsBudgetLeft b budget → (k : ℕ) × (budget ≡ k + 1)
        has_left true e left = left
        has_left false e left = absurd (true≢false (sym e))

    module _ {fs : List Edge} (followed : AreFollowed owner g.components at (length g.positions) has_budget (edges_at g.edges at) fs) where
      abbrev FromEdge : Edge → Type 0
      FromEdge f = (e : Edge) × Contains (edges_at g.edges at) e × LeadsOn r g owner limit budget Ts ids m at e f

      from_edge : (f : Edge) → Contains fs f → FromEdge f
      from_edge f among = let (e, among', is) = followed.from f among in (e, among', leads_on e f among' is)

      pub layer-noted : (f : Edge) → Contains fs f → IsNoted Ts ids f.next
      layer-noted f among = let (e, _, leads) = from_edge f among in (leads.inside, leads.value.known)

      layer_within : (f : Edge) → Contains fs f → (x : ℤ) → IsNumberOf (noted Ts ids f.next) x
          → (unsigned_abs x ≤ layer_size r g budget m) × (f.taken < length r.cells)
      layer_within f among x n =
          let (e, among', leads) = from_edge f among in
          let size = leads.value.sizes x n in
          (omega (arith, size, leads.small), omega (arith, leads.taken, graph_taken r (plain_graph g) of.graph at e among'))

      pub layer-small : budget ≤ 256 → length g.positions ≤ MOST_POSITIONS → AreWithinAfter most_units Ts ids fs
      layer-small low few f among x n =
          let (size, taken) = layer_within f among x n in
          let short = order_within owner in
          within_units budget (length g.positions) m (length r.cells) (unsigned_abs x) f.taken low few (omega (arith, lt, short)) of.few size taken

      module _ (cells : List Cell) (has : IsPlaceOf r (plain_graph g) at cells) where
        abbrev depth : ℕ
        depth = (budget + 1) * 3 ^ length r.cells

        -- the budget that is left after the edge is that after the move
        after_edge : (e f : Edge) (leads : LeadsOn r g owner limit budget Ts ids m at e f) (next : List Cell) → Contains (edges_at g.edges at) e
            → IsPlaceOf r (plain_graph g) e.next next → IsBudgetAfter r.touch owner e.colour (with_budget budget cells) (with_budget leads.left next)
        after_edge e f leads next among there =
            let uses = uses_at owner at e cells next has among there in
            elim leads.used [ inl (u, is) ↦ inl (uses.0 u, is) | inr (not, is) ↦ inr (λ u. not (uses.1 u), is) ]

        -- and there is one such
        left_after : (e f : Edge) (leads : LeadsOn r g owner limit budget Ts ids m at e f) (q : Budgeted) (c : Colour) → c ≡ e.colour
            → Contains (edges_at g.edges at) e → IsPlaceOf r (plain_graph g) e.next q.cells
            → IsBudgetAfter r.touch owner c (with_budget budget cells) q → q.budget ≡ leads.left
        left_after e f leads q c same among there after =
            let uses = uses_at owner at e cells q.cells has among there in
            one_left _ leads.used (elim after [
              | inl (u, is) ↦ inl (uses.1 (subst (λ d. UsesBudget r.touch owner d cells q.cells) same u), is)
              | inr (not, is) ↦ inr (λ u. not (subst (λ d. UsesBudget r.touch owner d cells q.cells) (sym same) (uses.0 u)), is)
            ])
          where
            one_left : (A : Type 0) → (A × (budget ≡ leads.left + 1)) ⊎ (¬ A × (budget ≡ leads.left)) → (A × (budget ≡ q.budget + 1)) ⊎ (¬ A × (budget ≡ q.budget))
                → q.budget ≡ leads.left
            one_left A (inl (a, e)) (inl (b, f)) = omega (arith, e, f)
            one_left A (inl (a, e)) (inr (b, f)) = absurd (b a)
            one_left A (inr (a, e)) (inl (b, f)) = absurd (a b)
            one_left A (inr (a, e)) (inr (b, f)) = omega (arith, e, f)

        -- the value of a place with a budget is equal to the trees of its position
        value_same : (left size i id : ℕ) → left ≤ budget → IsLayerValue r g owner limit left size Ts i id → (next : List Cell) (Y : Tree)
            → IsPlaceOf r (plain_graph g) i next → IsBudgetTreeWithin r.touch owner depth left next Y → Y ≡ᵍ tree_at Ts id
        value_same left size i id less value next Y there tree =
            let (Z, exact) = budget_tree r.touch owner (enough next left) left next in
            let le : (left + 1) * 3 ^ length r.cells ≤ (budget + 1) * 3 ^ length r.cells = mul-le-mul_right (3 ^ length r.cells) (omega (arith, less)) in
            let canonical = value.canonical next there Z exact in
            same-trans _ _ _ (budget_depths r.touch owner next left depth (enough next left) Y Z (deep_enough next i left depth there le) (omega arith) tree exact)
            (canonical.under, canonical.over)

        -- what is noted behind the edge is equal to the tree there
        next_same : (e f : Edge) (leads : LeadsOn r g owner limit budget Ts ids m at e f) (next : List Cell) (Y : Tree)
            → IsPlaceOf r (plain_graph g) e.next next → IsBudgetTreeWithin r.touch owner depth leads.left next Y → Y ≡ᵍ noted Ts ids f.next
        next_same e f leads next Y there tree = value_same leads.left leads.size e.next (get_or ids f.next 0)
            (elim leads.used [ inl (_, is) ↦ omega (arith, is) | inr (_, is) ↦ omega (arith, is) ]) leads.value next Y there tree

        -- the options of the position's tree are those after the edges that are followed
        layer-edges : (G : Tree) → IsBudgetTreeWithin r.touch owner (suc depth) budget cells G → HasEdges Ts ids fs G
        layer-edges G tree = record {
          from = λ c X h.
              (let (x, (Y, ((place, move, number), after), later, is)) = (tree c).0 X h in
              let (e, among, edge) = graph_edge r (plain_graph g) of.graph at cells x.to.cells c place x.taken has move number in
              let there = graph_next r (plain_graph g) of.graph at cells x.to.cells c place x.taken e has move edge in
              let (o, passed, listed) = followed.to e among in
              found c X x Y e among edge there after later is o passed listed);
          to = λ f among.
              (let (e, among', leads) = from_edge f among in
              let (next, move, edge) = graph_move r (plain_graph g) of.graph at cells e has among' in
              let there = graph_next r (plain_graph g) of.graph at cells next e.colour e.place e.taken e has move edge in
              let after = after_edge e f leads next among' there in
              let (Y, later, has') = (tree e.colour).1 (record { to = with_budget leads.left next; taken = e.taken }) ((e.place, move, edge.number), after) in (
                Y +ᵍ gain e.colour e.taken,
                subst (λ c. Has (options c G) (Y +ᵍ gain e.colour e.taken)) (sym leads.colour) has',
                summed Y (noted Ts ids f.next) e.colour f.colour e.taken f.taken (sym leads.colour) (sym leads.taken) (next_same e f leads next Y there later),
              ));
        }
          where
            summed : (Y Z : Tree) (c d : Colour) (n k : ℕ) → c ≡ d → n ≡ k → Y ≡ᵍ Z → (Y +ᵍ gain c n) ≡ᵍ (Z +ᵍ gain d k)
            summed Y Z c d n k same as_many s = same-plus _ _ _ _ s (same-path _ _ (ap₂ gain same as_many))

            found : (c : Colour) (X : Tree) (x : Step Budgeted) (Y : Tree) (e : Edge) → Contains (edges_at g.edges at) e
                → {place : ℕ} → IsEdgeFor g.positions cells x.to.cells c place x.taken e → IsPlaceOf r (plain_graph g) e.next x.to.cells
                → IsBudgetAfter r.touch owner c (with_budget budget cells) x.to → IsBudgetTreeWithin r.touch owner depth x.to.budget x.to.cells Y
                → X ≡ Y +ᵍ gain c x.taken → (o : Option Edge) → IsFollowed owner g.components at (length g.positions) has_budget e o
                → ((f : Edge) → o ≡ Some f → Contains fs f) → (f : Edge) × Contains fs f × (f.colour ≡ c) × (X ≡ᵍ tree_after Ts ids f)
            found c X x Y e among edge there after later is None (captures, no_budget) listed =
                let uses = uses_at owner at e cells x.to.cells has among there in
                elim after [
                  | inl (u, more) ↦ absurd (none_left has_budget no_budget pass.left x.to.budget more)
                  | inr (not, same) ↦ absurd (not (subst (λ d. UsesBudget r.touch owner d cells x.to.cells) edge.colour (uses.0 captures)))
                ]
              where
                none_left : (b : Bool) → b ≡ false → IsBudgetLeft b budget → (k : ℕ) → budget ≡ k + 1 → ⊥
                none_left false no_budget none k more = omega (arith, none, more)
                none_left true no_budget left k more = true≢false no_budget
            found c X x Y e among edge there after later is (Some f) passed listed =
                let leads = leads_on e f among passed in
                let left = left_after e f leads x.to c (sym edge.colour) among there after in
                let later' = subst (λ k. IsBudgetTreeWithin r.touch owner depth k x.to.cells Y) left later in (
                  f,
                  listed f refl,
                  leads.colour ∙ edge.colour,
                  same-trans _ _ _ (same-path _ _ is)
                      (summed Y (noted Ts ids f.next) c f.colour x.taken f.taken (sym (leads.colour ∙ edge.colour)) (sym (leads.taken ∙ edge.taken))
                      (next_same e f leads x.to.cells Y there later')),
                )

        -- a tree of the position is equal to one whose options are those after the edges
        as_deep : (G : Tree) → IsBudgetTree r.touch owner budget cells G → (H : Tree) × HasEdges Ts ids fs H × (H ≡ᵍ G)
        as_deep G tree =
            let (H, deep) = budget_tree r.touch owner (suc depth) budget cells in (
              H,
              layer-edges H deep,
              budget_depths r.touch owner cells budget (suc depth) (enough cells budget) H G
                  (deep_enough cells at budget (suc depth) has (omega arith)) (omega arith) deep tree,
            )

      module _ (Us : List Tree) (id : ℕ) (made : IsMade Ts Us ids limit fs id) where
        known_id : id < length Us
        known_id =
            let (cells, has) = graph_position r (plain_graph g) of.graph at at_inside in
            let (G, tree) = budget_tree r.touch owner (suc (depth cells has)) budget cells in
            (made.value G (layer-edges cells has G tree)).0

        pub made-now : IsLayerValue r g owner limit budget (layer_size r g budget (m + 1)) Us at id
        made-now = record {
          known = known_id;
          canonical = λ cells has G tree.
              (let (H, edges, same) = as_deep cells has G tree in
              let (known, canonical) = made.value H edges in
              canonical-as H G (tree_at Us id) same canonical);
          sizes = λ x n.
              (let b = ((budget * length g.positions + m + 1) * (length r.cells + 1)) * 2 ^ 60 in
              let size = made.sizes (b - 2 ^ 60) (λ f among y k.
              let (le, less) = layer_within f among y k in
              let more = one_more_size (budget * length g.positions + m) (length r.cells) (unsigned_abs y) f.taken le less in
              omega (arith, more)) x n in
              let room : 1 * 2 ^ 60 ≤ b = mul-le-mul_right {m = 1} {n = (budget * length g.positions + m + 1) * (length r.cells + 1)} (2 ^ 60)
              (positive (budget * length g.positions + m) (length r.cells)) in
              let as_is : (budget * length g.positions + (m + 1)) ≡ budget * length g.positions + m + 1 = omega arith in
              let whole : ((budget * length g.positions + (m + 1)) * (length r.cells + 1)) * 2 ^ 60 ≡ b = ap (λ k. (k * (length r.cells + 1)) * 2 ^ 60) as_is in
              omega (arith, size, room, whole));
          parts = made.parts;
        }
          where
            positive : (a c : ℕ) → 1 ≤ (a + 1) * (c + 1)
            positive a c = omega (arith, add-mul a 1 (c + 1), one-mul (c + 1))

      -- What is kept: behind a followed edge stands the value with one budget less too, by the same id.

      -- there is a layer before
      has_before : at + length g.positions < length ids → (k : ℕ) × (budget ≡ k + 1)
      has_before short = elim (cases_lt 0 budget) [
        | inl lt' ↦ (budget - 1, omega (arith, lt'))
        | inr le ↦ absurd (omega (arith, short, at_inside, pass.alone (omega (arith, le))))
      ]

      leads_alike : (k : ℕ) → budget ≡ k + 1 → (e f : Edge) (leads : LeadsOn r g owner limit budget Ts ids m at e f) → Contains (edges_at g.edges at) e
          → IsFollowed owner g.components at (length g.positions) has_budget e (Some f) → IsUnchanged (length g.positions) ids f
          → (less : ℕ) × (leads.left ≡ less + 1) × IsLayerValue r g owner limit less (layer_size r g less (length g.positions)) Ts e.next (get_or ids f.next 0)
      leads_alike k one e f leads among (inl (not, same)) (short, is) =
          let (cells, has) = graph_position r (plain_graph g) of.graph at at_inside in
          let (next, move, edge) = graph_move r (plain_graph g) of.graph at cells e has among in
          let (_, value) = pass.before k one e.next edge.inside in
          let there : get_or ids (e.next + length g.positions) 0 ≡ get_or ids f.next 0 =
          ap (λ x. get_or ids (x.next + length g.positions) 0) (sym same) ∙ is in (
            k,
            elim leads.used [ inl (captures, _) ↦ absurd (not captures) | inr (_, left) ↦ omega (arith, left, one) ],
            subst (IsLayerValue r g owner limit k (layer_size r g k (length g.positions)) Ts e.next) there value,
          )
      leads_alike k one e f leads among (inr (captures, (behind, same))) (short, is) =
          let (cells, has) = graph_position r (plain_graph g) of.graph at at_inside in
          let (next, move, edge) = graph_move r (plain_graph g) of.graph at cells e has among in
          let far : e.next + length g.positions + length g.positions < length ids = subst (λ x. x.next + length g.positions < length ids) same short in
          let some : 0 < k = elim (cases_lt 0 k) [ inl lt' ↦ lt' | inr le ↦ absurd (omega (arith, far, edge.inside, pass.with_one (omega (arith, one, le)))) ] in
          let (_, value) = pass.earlier (k - 1) (omega (arith, one, some)) e.next edge.inside in
          let there : get_or ids (e.next + length g.positions + length g.positions) 0 ≡ get_or ids f.next 0 =
          ap (λ x. get_or ids (x.next + length g.positions) 0) (sym same) ∙ is in (
            k - 1,
            elim leads.used [ inl (_, left) ↦ omega (arith, left, one, some) | inr (not, _) ↦ absurd (not captures) ],
            subst (IsLayerValue r g owner limit (k - 1) (layer_size r g (k - 1) (length g.positions)) Ts e.next) there value,
          )

      module _ (cells : List Cell) (has : IsPlaceOf r (plain_graph g) at cells) (k : ℕ) (one : budget ≡ k + 1)
          (unchanged : (f : Edge) → Contains fs f → IsUnchanged (length g.positions) ids f) where
        abbrev TreeIn : ℕ → List Cell → Tree → Type 0
        TreeIn j next Y = IsBudgetTreeWithin r.touch owner (depth cells has) j next Y

        -- after a move there is budget left, and with one less the trees are equal
        behind : (c : Colour) (y : Step Budgeted) → IsBudgetStep r.touch owner c (with_budget budget cells) y
            → (l : ℕ) × (y.to.budget ≡ l + 1) × ((X Y : Tree) → TreeIn l y.to.cells X → TreeIn y.to.budget y.to.cells Y → X ≡ᵍ Y)
        behind c y ((place, move, number), after) =
            let (e, among, edge) = graph_edge r (plain_graph g) of.graph at cells y.to.cells c place y.taken has move number in
            let there = graph_next r (plain_graph g) of.graph at cells y.to.cells c place y.taken e has move edge in
            let (o, passed, listed) = followed.to e among in
            through e among edge.colour there o passed listed
          where
            through : (e : Edge) → Contains (edges_at g.edges at) e → e.colour ≡ c → IsPlaceOf r (plain_graph g) e.next y.to.cells → (o : Option Edge)
                → IsFollowed owner g.components at (length g.positions) has_budget e o → ((f : Edge) → o ≡ Some f → Contains fs f)
                → (l : ℕ) × (y.to.budget ≡ l + 1) × ((X Y : Tree) → TreeIn l y.to.cells X → TreeIn y.to.budget y.to.cells Y → X ≡ᵍ Y)
            through e among colour there None (captures, no_budget) listed = absurd (none_left has_budget no_budget pass.left)
              where
                none_left : (b : Bool) → b ≡ false → IsBudgetLeft b budget → ⊥
                none_left false no_budget none = omega (arith, none, one)
                none_left true no_budget left = true≢false no_budget
            through e among colour there (Some f) passed listed =
                let leads = leads_on e f among passed in
                let left = left_after cells has e f leads y.to c (sym colour) among there after in
                let (less, is, value) = leads_alike k one e f leads among passed (unchanged f (listed f refl)) in (
                  less,
                  left ∙ is,
                  λ X Y a b. same-trans _ _ _
                      (value_same cells has less (layer_size r g less (length g.positions)) e.next (get_or ids f.next 0) (omega (arith, below leads, is)) value y.to.cells X there a)
                      (same-sym _ _ (next_same cells has e f leads y.to.cells Y there (subst (λ j. TreeIn j y.to.cells Y) left b))),
                )
              where
                below : (leads : LeadsOn r g owner limit budget Ts ids m at e f) → leads.left ≤ budget
                below leads = elim leads.used [ inl (_, is) ↦ omega (arith, is) | inr (_, is) ↦ omega (arith, is) ]

        -- trees of the position with this budget and with one less are equal
        kept_same : (G H : Tree) → IsBudgetTreeWithin r.touch owner (suc (depth cells has)) k cells G
            → IsBudgetTreeWithin r.touch owner (suc (depth cells has)) budget cells H → G ≡ᵍ H
        kept_same G H g' h = trees-match Budgeted Budgeted (IsBudgetStep r.touch owner) (IsBudgetStep r.touch owner) (depth cells has) (depth cells has)
            (with_budget k cells) (with_budget budget cells) G H g' h
            (λ c x (step, after).
            let y : Step Budgeted = record { to = with_budget (x.to.budget + 1) x.to.cells; taken = x.taken } in
            let more : IsBudgetStep r.touch owner c (with_budget budget cells) y =
            (step, elim after [ inl (u, is) ↦ inl (u, omega (arith, is, one)) | inr (f, is) ↦ inr (f, omega (arith, is, one)) ]) in
            let (l, is, same) = behind c y more in
            let as_before : x.to.budget ≡ l = omega (arith, is) in
            (y, more, (refl, λ X Y a b. same X Y (subst (λ j. TreeIn j x.to.cells X) as_before a) b)))
            (λ c y (step, after).
            let (l, is, same) = behind c y (step, after) in (
              record { to = with_budget l y.to.cells; taken = y.taken },
              (step, elim after [ inl (u, left) ↦ inl (u, omega (arith, is, left, one)) | inr (f, left) ↦ inr (f, omega (arith, is, left, one)) ]),
              (refl, same),
            ))

      pub kept-now : (id : ℕ) → IsKept (length g.positions) ids at fs id → IsLayerValue r g owner limit budget (layer_size r g budget (m + 1)) Ts at id
      kept-now id kept =
          let (k, one) = has_before kept.there in
          let (_, value) = pass.before k one at at_inside in
          let v = subst (IsLayerValue r g owner limit k (layer_size r g k (length g.positions)) Ts at) kept.is value in record {
            known = v.known;
            canonical = λ cells has G tree.
                (let deep = suc (depth cells has) in
                let (Z, exact) = budget_tree r.touch owner (enough cells k) k cells in
                let (A, a) = budget_tree r.touch owner deep k cells in
                let (B, b) = budget_tree r.touch owner deep budget cells in
                let less : (k + 1) * 3 ^ length r.cells ≤ deep =
                (let le : (k + 1) * 3 ^ length r.cells ≤ (budget + 1) * 3 ^ length r.cells = mul-le-mul_right (3 ^ length r.cells) (omega (arith, one)) in omega (arith, le)) in
                let same = same-trans _ _ _ (budget_depths r.touch owner cells k (enough cells k) deep Z A (omega arith) (deep_enough cells at k deep has less) exact a)
                (same-trans _ _ _ (kept_same cells has k one kept.unchanged A B a b)
                (budget_depths r.touch owner cells budget deep (enough cells budget) B G (deep_enough cells at budget deep has (omega arith)) (omega arith) b tree)) in
                canonical-as Z G (tree_at Ts id) same (v.canonical cells has Z exact));
            sizes = λ x n.
                (let size = v.sizes x n in
                let step : budget * length g.positions ≡ (k + 1) * length g.positions = ap (λ x. x * length g.positions) one in
                let larger = scaled (k * length g.positions + length g.positions) (budget * length g.positions + (m + 1)) (length r.cells)
                (omega (arith, step, add-mul k 1 (length g.positions), one-mul (length g.positions))) in
                omega (arith, size, larger));
            parts = v.parts;
          }

      -- a place's form is refused for its value
      pub layer-refused : (e : FormError) → ((G : Tree) → HasEdges Ts ids fs G → IsCause G limit e) → IsPastLimits r g owner limit budget e
      layer-refused e cause =
          let (cells, has) = graph_position r (plain_graph g) of.graph at at_inside in
          let (Z, exact) = budget_tree r.touch owner (enough cells budget) budget cells in
          let (H, edges, same) = as_deep cells has Z exact in
          let c = canon TextBefore text-order.total H in
          let k : IsCanonicalFor H c.tree = record { canonical = c.canonical; under = c.under; over = c.over } in
          let there : IsBudgetValueAt r g owner budget at c.tree =
          record {
            cells = cells;
            place = has;
            value = record {
              tree = Z;
              of_position = exact;
              canonical = c.canonical;
              same = same-trans _ _ _ (same-sym _ _ same) (c.under, c.over);
            };
          } in
          refusal H c.tree e there k (cause H edges)
        where
          refusal : (G V : Tree) (e : FormError) → IsBudgetValueAt r g owner budget at V → IsCanonicalFor G V → IsCause G limit e → IsPastLimits r g owner limit budget e
          refusal G V Parts there c w = (at, V, there, made-no_number G V w.0 c, w.1 V c)
          refusal G V Bounds there c w = (
            at,
            V,
            there,
            (
              V,
              tree-number V c.canonical (number-as G V (c.under, c.over) w.0),
              inl refl,
              λ u b e. w.1 u b (subst (λ t. G ≤ᵍ t) e c.under) (subst (λ t. t ≤ᵍ G) e c.over),
            ),
          )
          refusal G V (Memory cause) there c w = tt

    module _ (Us : List Tree) (id : ℕ) (kept : Extends Ts Us) (now : IsLayerValue r g owner limit budget (layer_size r g budget (m + 1)) Us at id) where
      -- a value that was noted stays
      stays : (i k size j : ℕ) → j ≢ at → IsLayerValue r g owner limit k size Ts i (get_or ids j 0)
          → IsLayerValue r g owner limit k size Us i (get_or (set ids at id) j 0)
      stays i k size j ne v =
          let e : get_or (set ids at id) j 0 ≡ get_or ids j 0 = get_or-set_other ids at j id 0 ne in
          let same : tree_at Us (get_or (set ids at id) j 0) ≡ tree_at Ts (get_or ids j 0) = ap (tree_at Us) e ∙ kept.same (get_or ids j 0) v.known in record {
            known = omega (arith, e, v.known, kept.longer);
            canonical = λ cells has G tree. subst (IsCanonicalFor G) (sym same) (v.canonical cells has G tree);
            sizes = subst (AreWithin size) (sym same) v.sizes;
            parts = subst (λ t. HasMoreParts t limit → ⊥) (sym same) v.parts;
          }

      pub layer-step : IsLayerPass r g owner limit budget has_budget Us (set ids at id) (m + 1)
      layer-step = record {
        long = omega (arith, length-set ids at id, pass.long);
        left = pass.left;
        each = below_more (λ k. IsLayerValue r g owner limit budget (layer_size r g budget (k + 1)) Us (place_in g owner k) (get_or (set ids at id) (place_in g owner k) 0)) m
            (λ k less. stays (place_in g owner k) budget (layer_size r g budget (k + 1)) (place_in g owner k)
            (λ same. (of.orders owner).once k m 0 less lt same) (pass.each k less))
            (subst (IsLayerValue r g owner limit budget (layer_size r g budget (m + 1)) Us at)
            (sym (get_or-set_same ids at id 0 (omega (arith, at_inside, pass.long)))) now);
        before = λ k one i inside.
            let (short, v) = pass.before k one i inside in
            (omega (arith, length-set ids at id, short), stays i k (layer_size r g k (length g.positions)) (i + length g.positions) (λ same. omega (arith, same, at_inside)) v);
        earlier = λ k two i inside.
            let (short, v) = pass.earlier k two i inside in (
              omega (arith, length-set ids at id, short),
              stays i k (layer_size r g k (length g.positions)) (i + length g.positions + length g.positions) (λ same. omega (arith, same, at_inside)) v,
            );
        alone = λ none. omega (arith, length-set ids at id, pass.alone none);
        with_one = λ one. omega (arith, length-set ids at id, pass.with_one one);
      }

-- A step of the pass, with the lists as the program lends them: what it asks, what it gives, and what a refusal means.
pub record IsLayerCall (r : Region) (g : ReturnGraph) (owner : Colour) (limit budget : ℕ) (has_budget : Bool) (Ts : List Tree) (ids : List ℕ) (m at : ℕ)
    (fs : List Edge) (vs : List ℕ) : Type 0 where
  pub noted : (f : Edge) → Contains fs f → IsNoted Ts vs f.next
  pub small : budget ≤ 256 → length g.positions ≤ MOST_POSITIONS → AreWithinAfter most_units Ts vs fs
  pub step : (Us : List Tree) (id : ℕ) → Extends Ts Us → IsKept (length g.positions) vs at fs id ⊎ IsMade Ts Us vs limit fs id
      → IsLayerPass r g owner limit budget has_budget Us (set ids at id) (m + 1)
  pub refused : (e : FormError) → ((G : Tree) → HasEdges Ts vs fs G → IsCause G limit e) → IsPastLimits r g owner limit budget e

pub layer-call : {r : Region} {g : ReturnGraph} → IsReturnGraphOf r g → {owner : Colour} {limit budget : ℕ} {has_budget : Bool} {Ts : List Tree} {ids : List ℕ} {m : ℕ}
    → IsLayerPass r g owner limit budget has_budget Ts ids m → {order : List ℕ} {fs lent : List Edge} {vs : List ℕ} → order ≡ order_for g owner → vs ≡ ids → lent ≡ fs → m < length order
    → AreFollowed owner g.components (get_or order m 0) (length g.positions) has_budget (edges_at g.edges (get_or order m 0)) fs
    → IsLayerCall r g owner limit budget has_budget Ts ids m (get_or order m 0) lent vs
layer-call {r} {g} of {owner} {limit} {budget} {has_budget} {Ts} {ids} {m} pass {order} {fs} {lent} {vs} o v s short followed =
    let lt : m < length (order_for g owner) = subst (λ z. m < length z) o short in
    let followed' = subst (λ z. AreFollowed owner g.components (get_or z m 0) (length g.positions) has_budget (edges_at g.edges (get_or z m 0)) fs) o followed in
    rw (v, s, o) record {
      noted = layer-noted of pass lt followed';
      small = layer-small of pass lt followed';
      step = λ Us id grown how. layer-step of pass lt Us id grown (elim how [
        | inl kept ↦ value-on grown (kept-now of pass lt followed' id kept)
        | inr made ↦ made-now of pass lt followed' Us id made
      ]);
      refused = layer-refused of pass lt followed';
    }

-- edges lead to places
pub edges-inside : {r : Region} {g : ReturnGraph} → IsReturnGraphOf r g → (i : ℕ) → i < length g.positions → (e : Edge) → Contains (edges_at g.edges i) e → e.next < length g.positions
edges-inside {r} {g} of i inside e among =
    let (cells, has) = graph_position r (plain_graph g) of.graph i inside in
    let (next, move, edge) = graph_move r (plain_graph g) of.graph i cells e has among in
    edge.inside

-- a place of the order, and where its edges lead
pub layer-place : {r : Region} {g : ReturnGraph} → IsReturnGraphOf r g → (owner : Colour) {order : List ℕ} {m : ℕ} → order ≡ order_for g owner → m < length order
    → (get_or order m 0 < length g.positions) × ((e : Edge) → Contains (edges_at g.edges (get_or order m 0)) e → e.next < length g.positions)
layer-place {r} {g} of owner {order} {m} o short = rw o (inside, edges-inside of (get_or (order_for g owner) m 0) inside)
  where
    inside : get_or (order_for g owner) m 0 < length g.positions
    inside = let lt = (of.orders owner).inside m (subst (λ z. m < length z) o short) in omega (arith, lt, of.graph.beside)

there_at : (i n : ℕ) → (i + n) - n ≡ i
there_at i n = omega arith

there_twice : (i n : ℕ) → (i + n + n) - (n + n) ≡ i
there_twice i n = omega arith

pub layer-start : {r : Region} {g : ReturnGraph} {owner : Colour} {limit : ℕ} {has_budget : Bool} {Ts : List Tree} {layers : List (List ℕ)} {ids : List ℕ}
    → IsBudgetLeft has_budget (length layers) → AreLayers r g owner limit Ts layers → IsRoom (length g.positions) layers ids
    → IsLayerPass r g owner limit (length layers) has_budget Ts ids 0
layer-start {r} {g} {owner} {limit} {has_budget} {Ts} {layers} {ids} left so_far room = record {
  long = omega (arith, room.many, all_long);
  left = left;
  each = λ k lt. absurd (omega (arith, lt));
  before = behind;
  earlier = further;
  alone = λ none. omega (arith, all_long, room.many, no_layer 1 room.last room.last_is (omega (arith, none)), no_layer 2 room.earlier room.earlier_is (omega (arith, none)));
  with_one = λ one. omega (
    arith,
    all_long,
    room.many,
    (layer_back 1 0 room.last (omega arith) room.last_is (omega (arith, one))).0,
    no_layer 2 room.earlier room.earlier_is (omega (arith, one)),
  );
}
  where
    all_long : length ids ≡ length room.own + length room.last + length room.earlier
    all_long = ap (λ (z : List ℕ). length z) room.is ∙ length-append (room.own ++ room.last) room.earlier ∙ ap (λ n. n + length room.earlier) (length-append room.own room.last)

    no_layer : (back : ℕ) (layer : List ℕ) → IsLayerBack layers back layer → length layers < back → length layer ≡ 0
    no_layer back layer (inl (le, is)) few = absurd (omega (arith, le, few))
    no_layer back layer (inr (_, is)) few = ap (λ (z : List ℕ). length z) is

    -- the layer that stands so far from the end
    layer_back : (back k : ℕ) (layer : List ℕ) → 0 < back → IsLayerBack layers back layer → length layers ≡ k + back → (length layer ≡ length g.positions)
        × ((i : ℕ) → i < length g.positions → IsLayerValue r g owner limit k (layer_size r g k (length g.positions)) Ts i (get_or layer i 0))
    layer_back back k layer some (inr (few, is)) many = absurd (omega (arith, few, many))
    layer_back back k layer some (inl (le, is)) many =
        let same : length layers - back ≡ k = omega (arith, many) in
        let this : layer ≡ slice_index_or layers k [] = is ∙ ap (λ n. slice_index_or layers n []) same in
        let whole = so_far.each k (omega (arith, many, some)) in (
          ap (λ (z : List ℕ). length z) this ∙ whole.long,
          λ i lt. subst (λ z. IsLayerValue r g owner limit k (layer_size r g k (length g.positions)) Ts i (get_or z i 0)) (sym this) (whole.each i lt),
        )

    behind : (k : ℕ) → length layers ≡ k + 1 → (i : ℕ) → i < length g.positions → (i + length g.positions < length ids)
        × IsLayerValue r g owner limit k (layer_size r g k (length g.positions)) Ts i (get_or ids (i + length g.positions) 0)
    behind k one i lt =
        let (long, each) = layer_back 1 k room.last (omega arith) room.last_is one in
        let at : get_or ids (i + length g.positions) 0 ≡ get_or room.last i 0 = ap (λ z. get_or z (i + length g.positions) 0) room.is
        ∙ get_or_append_left (room.own ++ room.last) room.earlier 0 (i + length g.positions) (omega (arith, lt, long, room.many, length-append room.own room.last))
        ∙ get_or-append_right room.own room.last (length g.positions) (i + length g.positions) 0 room.many (omega arith)
        ∙ ap (λ n. get_or room.last n 0) (there_at i (length g.positions)) in (
          omega (arith, lt, all_long, room.many, long),
          subst (IsLayerValue r g owner limit k (layer_size r g k (length g.positions)) Ts i) (sym at) (each i lt),
        )

    further : (k : ℕ) → length layers ≡ k + 2 → (i : ℕ) → i < length g.positions → (i + length g.positions + length g.positions < length ids)
        × IsLayerValue r g owner limit k (layer_size r g k (length g.positions)) Ts i (get_or ids (i + length g.positions + length g.positions) 0)
    further k two i lt =
        let (long, each) = layer_back 2 k room.earlier (omega arith) room.earlier_is two in
        let (long', _) = layer_back 1 (k + 1) room.last (omega arith) room.last_is (omega (arith, two)) in
        let front : length (room.own ++ room.last) ≡ length g.positions + length g.positions = omega (arith, length-append room.own room.last, room.many, long') in
        let at : get_or ids (i + length g.positions + length g.positions) 0 ≡ get_or room.earlier i 0 = ap (λ z. get_or z (i + length g.positions + length g.positions) 0) room.is
        ∙ get_or-append_right (room.own ++ room.last) room.earlier (length g.positions + length g.positions) (i + length g.positions + length g.positions) 0 front (omega arith)
        ∙ ap (λ n. get_or room.earlier n 0) (there_twice i (length g.positions)) in (
          omega (arith, lt, all_long, room.many, long, long'),
          subst (IsLayerValue r g owner limit k (layer_size r g k (length g.positions)) Ts i) (sym at) (each i lt),
        )

-- what a pass over all places gives
pub layer-done : {r : Region} {g : ReturnGraph} → IsReturnGraphOf r g → {owner : Colour} {limit budget : ℕ} {has_budget : Bool} {Ts : List Tree} {ids : List ℕ} {m : ℕ}
    → IsLayerPass r g owner limit budget has_budget Ts ids m → {order : List ℕ} → order ≡ order_for g owner → length order ≤ m
    → IsLayer r g owner limit budget Ts (take (length g.positions) ids)
layer-done {r} {g} of {owner} {limit} {budget} {has_budget} {Ts} {ids} {m} pass {order} o done = record {
  long = omega (arith, length-take (length g.positions) ids, pass.long);
  each = λ i lt.
      (let (k, short, at) = (of.orders owner).every i (omega (arith, lt, of.graph.beside)) in
      let there : place_in g owner k ≡ i = get_or_default (order_for g owner) k 0 i short ∙ at in
      let v = pass.each k (omega (arith, short, done, ap (λ (z : List ℕ). length z) o)) in
      let few = order_within of owner in
      let larger = scaled (budget * length g.positions + (k + 1)) (budget * length g.positions + length g.positions) (length r.cells) (omega (arith, short, few)) in
      let here : IsLayerValue r g owner limit budget (layer_size r g budget (length g.positions)) Ts (place_in g owner k) (get_or ids (place_in g owner k) 0) =
      record { known = v.known; canonical = v.canonical; sizes = λ x n. (let size = v.sizes x n in omega (arith, size, larger)); parts = v.parts } in
      subst (IsLayerValue r g owner limit budget (layer_size r g budget (length g.positions)) Ts i) (sym (get_or-take (length g.positions) ids i 0 lt))
      (subst (λ j. IsLayerValue r g owner limit budget (layer_size r g budget (length g.positions)) Ts j (get_or ids j 0)) there here));
}
