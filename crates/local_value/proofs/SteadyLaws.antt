-- When two layers are alike, what is needed to tell, and what a refusal on the way means.
use Rattle.std.proofs.Common.{ℕ, ◌+◌, ◌-◌, ◌*◌, ◌^◌, ◌≡◌, ◌<◌, ◌≤◌, ◌↔◌, inl, inr, refl, sym, ap, ◌∙◌, subst, arith, min, List, [], ◌∷◌, ◌++◌, take, length, length-append, get_or, slice_index_or, None, Result, Ok, Err, below_more, mul-le-mul_right}
use Rattle.std.proofs.lemmas.List.{ext_get_or, get_or_append_left, get_or_push, get_or-take, get_or_default, length-take}
use Rattle.std.proofs.Math.Nat.{add-mul, min-eq_left, min-eq_right, one-mul}
use Rattle.std.proofs.lemmas.Bool.{cases_lt}
use Rattle.go_grid.specs.declared.grid.Cell.{Cell}
use Rattle.go_grid.specs.declared.grid.Colour.{Colour}
use Rattle.go_grid.specs.Region.{Region}
use Rattle.local_play.specs.Packed.{pack}
use Rattle.local_graph.specs.BuiltWithReturns.{BuiltWithReturns}
use Rattle.local_graph.specs.LocalGraph.{IsReachable}
use Rattle.local_graph.specs.ReturnGraph.{ReturnGraph}
use Rattle.short_games.specs.Tree.{Tree, tree_at, AreDistinct}
use Rattle.short_games.specs.Parts.{HasMoreParts}
use Rattle.short_games.proofs.OrderLaws.{same-path, same-sym, same-trans}
use Rattle.short_games.proofs.ReductionLaws.{same-canonical}
use Rattle.game_store.specs.Forms.{HaveForms}
use Rattle.game_store.specs.Meaning.{Extends}
use Rattle.game_canon.specs.declared.errors.FormError.{FormError}
use Rattle.game_canon.specs.declared.errors.FormError.TheVariants.{Parts, Bounds, Memory}
use Rattle.game_canon.specs.Changes.{HasNumberPastBounds}
use Rattle.game_canon.specs.Outcomes.{AreWithin}
use Rattle.game_canon.proofs.NumberPartLaws.{within-bounds}
use Rattle.local_value.specs.declared.budgets.BudgetError.{BudgetError}
use Rattle.local_value.specs.declared.budgets.BudgetError.TheVariants.{Form}
use Rattle.local_trees.specs.Steady.{IsSteady, IsBudgetValue}
use Rattle.local_value.specs.BudgetValues.{IsReturnGraphOf, plain_graph, IsBudgetValueAt, AreBudgetValues, AreWithinLimits, IsNeeded, IsPastLimits, budget_size, AreSteadyLayers, LayersServe}
use Rattle.local_trees.specs.GraphPlaces.{IsPlaceOf}
use Rattle.local_value.specs.inner.Layers.{layer_size, IsLayer, AreLayers}
use Rattle.local_trees.proofs.BudgetTreeLaws.{enough, budget_tree, budgets-need_cycles, steady_stays}
use Rattle.local_trees.proofs.MoveLaws.{graph_position}
use Rattle.local_value.proofs.LayerPassLaws.{value-on}
use Rattle.local_value.proofs.OptionsLaws.{canonical-as}
use Rattle.local_trees.proofs.TreeLaws.{trees-exist}

-- a graph that was built with what returns is that of its region
pub return_graph_of : (r : Region) (g : ReturnGraph) (limit : ℕ) → length r.cells ≡ length r.points → BuiltWithReturns r limit (Ok g) → IsReturnGraphOf r g
return_graph_of r g limit full built = record {
  few = omega (arith, full, built.0);
  graph = built.2;
  calm = built.3;
  returns = built.4;
  orders = built.5;
}

module _ {r : Region} {g : ReturnGraph} (of : IsReturnGraphOf r g) where
  -- each reachable position has a place
  place_for : (cells : List Cell) → IsReachable r.touch r.cells cells → (i : ℕ) × IsPlaceOf r (plain_graph g) i cells
  place_for cells reach =
      let (i, lt, is) = of.graph.all cells reach in
      (i, record { inside = lt; reachable = reach; packed = get_or_default g.positions i 0 (pack cells) lt ∙ is })

module _ {r : Region} {g : ReturnGraph} {owner : Colour} where
  -- where the region is steady, a value with the next budget is one with this
  earlier : {j : ℕ} (i : ℕ) (V : Tree) → IsBudgetValueAt r g owner (j + 1) i V → IsSteady r.touch r.cells owner j → IsBudgetValueAt r g owner j i V
  earlier {j} i V at steady =
      let (G, tree) = budget_tree r.touch owner (enough at.cells j) j at.cells in record {
        cells = at.cells;
        place = at.place;
        value = record {
          tree = G;
          of_position = tree;
          canonical = at.value.canonical;
          same = same-trans _ _ _ (steady at.cells at.place.reachable G at.value.tree tree at.value.of_position) at.value.same;
        };
      }

-- a budget more is needed where this one isn't steady
pub needs-more : (r : Region) (owner : Colour) {j : ℕ} → IsNeeded r owner j → ¬ IsSteady r.touch r.cells owner j → IsNeeded r owner (j + 1)
needs-more r owner {j} needed not k lt = below_more (λ k. ¬ IsSteady r.touch r.cells owner k) j needed not k lt

module _ {r : Region} {g : ReturnGraph} (of : IsReturnGraphOf r g) {owner : Colour} {limit : ℕ} where
  value_is : {j : ℕ} {Ts : List Tree} {ids : List ℕ} → IsLayer r g owner limit j Ts ids → (i : ℕ) (V : Tree) → IsBudgetValueAt r g owner j i V
      → (get_or ids i 0 < length Ts) × (tree_at Ts (get_or ids i 0) ≡ V) × (HasMoreParts V limit → ⊥)
  value_is {j} {Ts} {ids} layer i V at =
      let v = layer.each i at.place.inside in
      let canonical = v.canonical at.cells at.place at.value.tree at.value.of_position in
      let same = same-canonical at.value.tree (tree_at Ts (get_or ids i 0)) V canonical
      (record { canonical = at.value.canonical; under = at.value.same.0; over = at.value.same.1 }) in
      (v.known, same, subst (λ t. HasMoreParts t limit → ⊥) same v.parts)

  pub layer-limits : {j : ℕ} {Ts : List Tree} {ids : List ℕ} → IsLayer r g owner limit j Ts ids → HaveForms Ts → AreWithinLimits r g owner limit j
  layer-limits {j} {Ts} {ids} layer forms = record {
    parts = λ i V at. (value_is layer i V at).2;
    bounds = λ i V at past.
        (let (known, same, few) = value_is layer i V at in
        within-bounds Ts forms (get_or ids i 0) known (subst HasNumberPastBounds (sym same) past));
  }

  pub layer-values : {j : ℕ} {Ts Us : List Tree} {ids : List ℕ} → IsLayer r g owner limit j Ts ids → Extends Ts Us → AreBudgetValues r g owner j Us ids
  layer-values {j} {Ts} {Us} {ids} layer kept = record {
    long = layer.long;
    known = λ i lt. let v = layer.each i (omega (arith, lt, layer.long)) in omega (arith, v.known, kept.longer);
    each = λ i cells has.
        (let v = layer.each i has.inside in
        let (G, tree) = budget_tree r.touch owner (enough cells j) j cells in
        let c = v.canonical cells has G tree in
        subst (IsBudgetValue r.touch owner j cells) (sym (kept.same (get_or ids i 0) v.known))
        (record { tree = G; of_position = tree; canonical = c.canonical; same = (c.under, c.over) }));
  }

  module _ {j : ℕ} {Ts Us : List Tree} {ids next : List ℕ} (now : IsLayer r g owner limit j Ts ids) (kept : Extends Ts Us)
      (later : IsLayer r g owner limit (j + 1) Us next) where
    pub same-steady : ids ≡ next → IsSteady r.touch r.cells owner j
    same-steady same cells reach G H a b =
        let (i, has) = place_for of cells reach in
        let v = now.each i has.inside in
        let w = later.each i has.inside in
        let c = v.canonical cells has G a in
        let d = w.canonical cells has H b in
        let one : tree_at Ts (get_or ids i 0) ≡ tree_at Us (get_or next i 0) = sym (kept.same (get_or ids i 0) v.known) ∙ ap (λ z. tree_at Us (get_or z i 0)) same in
        same-trans _ _ _ (c.under, c.over) (same-trans _ _ _ (same-path _ _ one) (same-sym _ _ (d.under, d.over)))

    pub steady-same : AreDistinct Us → IsSteady r.touch r.cells owner j → ids ≡ next
    steady-same distinct steady = ext_get_or 0 ids next (now.long ∙ sym later.long) (λ i lt.
        let inside : i < length g.positions = omega (arith, lt, now.long) in
        let (cells, has) = graph_position r (plain_graph g) of.graph i inside in
        let v = now.each i inside in
        let w = later.each i inside in
        let (G, a) = budget_tree r.touch owner (enough cells j) j cells in
        let (H, b) = budget_tree r.touch owner (enough cells (j + 1)) (j + 1) cells in
        let s = steady cells has.reachable G H a b in
        let one = same-canonical H (tree_at Ts (get_or ids i 0)) (tree_at Us (get_or next i 0))
        (canonical-as G H (tree_at Ts (get_or ids i 0)) s (v.canonical cells has G a)) (w.canonical cells has H b) in
        distinct (get_or ids i 0) (get_or next i 0) (omega (arith, v.known, kept.longer)) w.known (kept.same (get_or ids i 0) v.known ∙ one))

  pub limits-more : {j : ℕ} → ((k : ℕ) → k ≤ j → AreWithinLimits r g owner limit k) → AreWithinLimits r g owner limit (j + 1)
      → (k : ℕ) → k ≤ j + 1 → AreWithinLimits r g owner limit k
  limits-more {j} before now k le = below_more (λ k. AreWithinLimits r g owner limit k) (j + 1) (λ i lt. before i (omega (arith, lt))) now k (omega (arith, le))

  pub within-none : AreWithinLimits r g owner limit 0 → (k : ℕ) → k ≤ 0 → AreWithinLimits r g owner limit k
  within-none now k le = let none : 0 ≡ k = omega (arith, le) in subst (AreWithinLimits r g owner limit) none now

  -- where the next budget's values are past the limits, they are needed
  pub refused-later : {j : ℕ} → IsNeeded r owner j → AreWithinLimits r g owner limit j → (e : FormError) → IsPastLimits r g owner limit (j + 1) e
      → (k : ℕ) × (k ≤ j + 1) × IsNeeded r owner k × IsPastLimits r g owner limit k e
  refused-later {j} needed limits Parts (i, V, at, no_number, more) =
      (j + 1, omega arith, needs-more r owner needed (λ steady. limits.parts i V (earlier i V at steady) more), (i, V, at, no_number, more))
  refused-later {j} needed limits Bounds (i, V, at, past) =
      (j + 1, omega arith, needs-more r owner needed (λ steady. limits.bounds i V (earlier i V at steady) past), (i, V, at, past))
  refused-later {j} needed limits (Memory cause) past = (j, omega arith, needed, tt)

-- Layers, one behind the other.

module _ {r : Region} {g : ReturnGraph} {owner : Colour} {limit : ℕ} where
  -- a store that grows keeps a layer
  layer-on : {j : ℕ} {Ts Us : List Tree} {ids : List ℕ} → IsLayer r g owner limit j Ts ids → Extends Ts Us → IsLayer r g owner limit j Us ids
  layer-on {j} {Ts} {Us} {ids} layer kept = record { long = layer.long; each = λ i lt. value-on kept (layer.each i lt) }

  pub no-layers : (Ts : List Tree) → AreLayers r g owner limit Ts []
  no-layers Ts = record { each = λ j lt. absurd (omega (arith, lt)) }

  -- one layer more
  pub layers-more : {Ts Us : List Tree} {layers more : List (List ℕ)} {ids : List ℕ} → more ≡ layers ++ ids ∷ [] → Extends Ts Us
      → IsLayer r g owner limit (length layers) Us ids → AreLayers r g owner limit Ts layers → AreLayers r g owner limit Us more
  layers-more {Ts} {Us} {layers} {more} {ids} is kept layer before = subst (AreLayers r g owner limit Us) (sym is) record {
    each = λ j lt. below_more (λ j. IsLayer r g owner limit j Us (slice_index_or (layers ++ ids ∷ []) j [])) (length layers)
        (λ j less. subst (IsLayer r g owner limit j Us) (sym (get_or_append_left layers (ids ∷ []) [] j less)) (layer-on (before.each j less) kept))
        (subst (IsLayer r g owner limit (length layers) Us) (sym (get_or_push layers ids [] (length layers) refl)) layer)
        j (omega (arith, lt, length-append layers (ids ∷ [])));
  }

  -- the first layers
  pub layers-first : {Ts : List Tree} {layers few : List (List ℕ)} (n : ℕ) → n ≤ length layers → few ≡ take n layers → AreLayers r g owner limit Ts layers
      → AreLayers r g owner limit Ts few × (length few ≡ n)
  layers-first {Ts} {layers} {few} n le is before =
      let long : length (take n layers) ≡ n = omega (arith, length-take n layers, le) in (
        subst (AreLayers r g owner limit Ts) (sym is) record {
          each = λ j lt. subst (IsLayer r g owner limit j Ts) (sym (get_or-take n layers j [] (omega (arith, lt, long)))) (before.each j (omega (arith, lt, long, le)));
        },
        ap (λ (z : List (List ℕ)). length z) is ∙ long,
      )

same_size : (r : Region) (g : ReturnGraph) (j : ℕ) → layer_size r g j (length g.positions) ≡ budget_size r g j
same_size r g j =
    let more : j * length g.positions + length g.positions ≡ (j + 1) * length g.positions = omega (arith, add-mul j 1 (length g.positions), one-mul (length g.positions)) in
    ap (λ n. (n * (length r.cells + 1)) * 2 ^ 60) more

-- without a cycle the region is steady at once
pub acyclic-steady : {r : Region} {g : ReturnGraph} (owner : Colour) → IsReturnGraphOf r g → g.components ≡ None → IsSteady r.touch r.cells owner 0
acyclic-steady {r} owner of none cells reach G H a b =
    let (T, tree) = trees-exist r.touch cells (3 ^ length cells) in
    let no_cycle = of.calm.0 none in
    same-trans _ _ _ (budgets-need_cycles r.touch r.cells owner 0 no_cycle cells reach G T a tree)
    (same-sym _ _ (budgets-need_cycles r.touch r.cells owner 1 no_cycle cells reach H T b tree))

-- the last layer is as the one before it
abbrev pub LastIsRepeated : List (List ℕ) → Type 0
LastIsRepeated layers = slice_index_or layers (length layers - 2) [] ≡ slice_index_or layers (length layers - 1) []

module _ {r : Region} {g : ReturnGraph} (of : IsReturnGraphOf r g) {owner : Colour} {limit : ℕ} where
  -- the layers up to the least budget at which the region is steady
  pub steady-layers : {budget : ℕ} {Ts : List Tree} {layers : List (List ℕ)} → AreLayers r g owner limit Ts layers → length layers ≡ budget + 1
      → IsNeeded r owner budget → IsSteady r.touch r.cells owner budget → ((j : ℕ) → j ≤ budget → AreWithinLimits r g owner limit j)
      → AreSteadyLayers r g owner limit budget Ts layers
  steady-layers {budget} {Ts} {layers} all many needed steady limits = record {
    many = many;
    least = record { steady = steady; least = needed };
    values = λ j le. layer-values of (all.each j (omega (arith, le, many))) (record { longer = omega arith; same = λ i l. refl });
    sizes = λ j i le inside. subst (λ n. AreWithin n (tree_at Ts (get_or (slice_index_or layers j []) i 0))) (same_size r g j)
        ((all.each j (omega (arith, le, many))).each i inside).sizes;
    limits = limits;
  }

  -- whether the last layer is as the one before it tells whether the region is steady at the budget of that one
  pub last-steady : (j : ℕ) {Ts : List Tree} {layers : List (List ℕ)} → AreLayers r g owner limit Ts layers → length layers ≡ j + 1 + 1 → AreDistinct Ts
      → LastIsRepeated layers ↔ IsSteady r.touch r.cells owner j
  last-steady j {Ts} {layers} all many distinct =
      let before : length layers - 2 ≡ j = omega (arith, many) in
      let last : length layers - 1 ≡ j + 1 = omega (arith, many) in
      let as_is : Extends Ts Ts = record { longer = omega arith; same = λ i l. refl } in
      let now = all.each j (omega (arith, many)) in
      let later = all.each (j + 1) (omega (arith, many)) in (
        λ same. same-steady of now as_is later (ap (λ n. slice_index_or layers n []) (sym before) ∙ same ∙ ap (λ n. slice_index_or layers n []) last),
        λ steady. ap (λ n. slice_index_or layers n []) before ∙ steady-same of now as_is later distinct steady ∙ ap (λ n. slice_index_or layers n []) (sym last),
      )

-- The layer that serves a budget has its values.
pub layers-serve : LayersServe
layers-serve r g owner limit budget Ts layers steady j = elim (cases_lt j (budget + 1)) [
  | inl lt ↦
      let least : min j (length layers - 1) ≡ j = min-eq_left (omega (arith, lt, steady.many)) in (
        subst (λ n. AreBudgetValues r g owner j Ts (slice_index_or layers n [])) (sym least) (steady.values j (omega (arith, lt))),
        λ i inside. subst (λ n. AreWithin (budget_size r g budget) (tree_at Ts (get_or (slice_index_or layers n []) i 0))) (sym least)
            (larger j (omega (arith, lt)) (tree_at Ts (get_or (slice_index_or layers j []) i 0)) (steady.sizes j i (omega (arith, lt)) inside)),
      )
  | inr le ↦
      let least : min j (length layers - 1) ≡ budget = min-eq_right (omega (arith, le, steady.many)) ∙ omega (arith, steady.many) in (
        subst (λ n. AreBudgetValues r g owner j Ts (slice_index_or layers n [])) (sym least) (later (omega (arith, le)) (steady.values budget (omega arith))),
        λ i inside. subst (λ n. AreWithin (budget_size r g budget) (tree_at Ts (get_or (slice_index_or layers n []) i 0))) (sym least)
            (steady.sizes budget i (omega arith) inside),
      )
]
  where
    larger : (k : ℕ) → k ≤ budget → (V : Tree) → AreWithin (budget_size r g k) V → AreWithin (budget_size r g budget) V
    larger k le V w x n =
        let size = w x n in
        let more : budget_size r g k ≤ budget_size r g budget =
        mul-le-mul_right (2 ^ 60) (mul-le-mul_right (length r.cells + 1) (mul-le-mul_right (length g.positions) (omega (arith, le)))) in
        omega (arith, size, more)

    later : {ids : List ℕ} → budget ≤ j → AreBudgetValues r g owner budget Ts ids → AreBudgetValues r g owner j Ts ids
    later le values = record {
      long = values.long;
      known = values.known;
      each = λ i cells has.
          (let v = values.each i cells has in
          let (G, tree) = budget_tree r.touch owner (enough cells j) j cells in
          let same = steady_stays r.touch r.cells owner budget j steady.least.steady le cells has.reachable v.tree G v.of_position tree in
          record { tree = G; of_position = tree; canonical = v.canonical; same = same-trans _ _ _ (same-sym _ _ same) v.same });
    }

-- an answer that is refused for a form
pub refused-form : {A : Type 0} {x : Result A BudgetError} (P : Result A BudgetError → Type 0) (e : FormError)
    → (y : BudgetError) × (x ≡ Err y) × (y ≡ Form e) → P (Err (Form e)) → P x
refused-form P e (y, is, form) p = subst P (sym is) (subst (λ z. P (Err z)) (sym form) p)
