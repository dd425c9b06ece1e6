-- A region that has the shape of a solved one is solved by that one's game, turned.
use Rattle.std.proofs.Common.{◌≡◌, ℕ, ◌-◌, ◌<◌, ◌≤◌, inl, inr, refl, sym, ap, ◌∙◌, subst, arith, min, List, [], map, length, get_or, Bool, true, false, Option, IsTrue}
use Rattle.std.proofs.lemmas.Bool.{cases_lt}
use Rattle.std.proofs.lemmas.List.{get_or_default, get_or_past, get_or-map, length-map}
use Rattle.go_grid.specs.declared.grid.Cell.{Cell}
use Rattle.go_grid.specs.declared.grid.Colour.{Colour}
use Rattle.go_grid.specs.declared.grid.Colour.TheVariants.{Black, White}
use Rattle.go_grid.specs.Region.{Region}
use Rattle.local_play.specs.Packed.{pack}
use Rattle.local_graph.proofs.BuildLemmas.{not_more}
use Rattle.short_games.specs.Parts.{HasMoreParts}
use Rattle.short_games.specs.TextOrder.{IsCanonicalTree}
use Rattle.short_games.specs.Tree.{Tree, tree_at}
use Rattle.short_games.proofs.OrderLaws.{le-refl}
use Rattle.game_store.specs.Forms.{HaveForms}
use Rattle.game_canon.specs.Changes.{HasNumberPastBounds}
use Rattle.game_canon.proofs.NumberPartLaws.{within-bounds}
use Rattle.local_value.specs.BudgetValues.{IsReturnGraphOf, layer_with, plain_graph}
use Rattle.local_trees.specs.Steady.{IsBudgetValue, IsSteady}
use Rattle.local_trees.specs.GraphPlaces.{IsPlaceOf}
use Rattle.local_trees.proofs.MoveLaws.{graph_position}
use Rattle.region_book.specs.Shape.{colour_after}
use Rattle.endgame_solver.specs.Limits.{Limits}
use Rattle.endgame_solver.specs.inner.Sharing.{AreNegatives, IsTurnedValue}
use Rattle.endgame_solver.proofs.CarriedLaws.{Matched}
use Rattle.endgame_solver.proofs.GraphLaws.{positions_few}
use Rattle.cycle_solver.specs.CycleFaults.{HasLargeNeeded}
use Rattle.cycle_solver.specs.declared.region_game.RegionGame.{RegionGame}
use Rattle.cycle_solver.specs.declared.views.View.{View}
use Rattle.cycle_solver.specs.GameLists.{layers_for}
use Rattle.cycle_solver.specs.Games.{IsSolvedBy}
use Rattle.cycle_solver.specs.Held.{AreLayersOf, ids_with}
use Rattle.cycle_solver.specs.inner.Shared.{AreNoted, IsNoted}
use Rattle.cycle_solver.specs.Turned.{id_after, layers_after, or_zero, own_game, own_number}
use Rattle.cycle_solver.proofs.OwnGraphLaws.{position_of}
use Rattle.cycle_solver.proofs.OwnReturnLaws.{return_graph_turned}
use Rattle.cycle_solver.proofs.OwnValueLaws.{colour_twice, least_over, one_budget_value, same_long, steady_over, value_over}

-- a colour's layers are those of the colour that it is there, with the ids that its values have here
pub layers_own : (known : List (Option ℕ)) (v : View) (game : RegionGame) (c : Colour)
    → layers_for (own_game known v game) c ≡ layers_after v.colours known (layers_for game (colour_after v.colours c))
layers_own known v game Black = refl
layers_own known v game White = refl

-- the layer that serves a budget
layer_after : (colours : Bool) (known : List (Option ℕ)) (layers : List (List ℕ)) (j : ℕ)
    → layer_with (layers_after colours known layers) j ≡ map (id_after colours known) (layer_with layers j)
layer_after colours known layers j =
    let all = layers_after colours known layers in
    let long = length-map layers (map (id_after colours known)) in
    ap (λ n. get_or all (min j (n - 1)) []) long ∙ at (min j (length layers - 1))
  where
    at : (i : ℕ) → get_or (map (map (id_after colours known)) layers) i [] ≡ map (id_after colours known) (get_or layers i [])
    at i = elim (cases_lt i (length layers)) as (λ _. get_or (map (map (id_after colours known)) layers) i [] ≡ map (id_after colours known) (get_or layers i [])) [
      | inl lt ↦ get_or-map (map (id_after colours known)) layers i [] [] lt
      | inr le ↦
          get_or_past (map (map (id_after colours known)) layers) i [] (omega (arith, le, length-map layers (map (id_after colours known))))
          ∙ ap (map (id_after colours known)) (sym (get_or_past layers i [] le))
    ]

pub ids_own : (known : List (Option ℕ)) (v : View) (game : RegionGame) (c : Colour) (j : ℕ)
    → ids_with (own_game known v game) c j ≡ map (id_after v.colours known) (ids_with game (colour_after v.colours c) j)
ids_own known v game c j =
    ap (λ layers. layer_with layers j) (layers_own known v game c) ∙ layer_after v.colours known (layers_for game (colour_after v.colours c)) j

-- a layer that serves a budget is one of the layers
served : (layers : List (List ℕ)) (j : ℕ) → 0 < length layers → min j (length layers - 1) < length layers
served layers j some = omega (arith, some)

-- where negatives are noted, the id is that of the value turned
turned_id : (colours : Bool) (known : List (Option ℕ)) (Ts : List Tree) (id : ℕ) → id < length Ts
    → IsCanonicalTree (tree_at Ts id) → AreNegatives Ts known → (IsTrue colours → IsNoted known id) → IsTurnedValue colours Ts id (id_after colours known id)
turned_id false known Ts id lt canonical right noted = record {
  known = lt;
  canonical = record { canonical = canonical; under = le-refl _; over = le-refl _ };
  parts = λ n h. h;
  sizes = λ b h. h;
}
turned_id true known Ts id lt canonical right noted =
    let (turned, is) = noted refl in
    subst (IsTurnedValue true Ts id) (sym (ap or_zero is)) (right id turned is).1

module _ {limits : Limits} {most : ℕ} {q : Region} (r : Region) {Paired : ℕ → ℕ → Type 0} (v : View)
    (opening : Matched q.touch r.touch Paired v.colours q.cells r.cells) (long : length r.cells ≡ length q.cells) (full : length r.cells ≡ length r.points)
    (points : length r.points ≤ 32) (wide : length v.places ≡ 32) (partner : (j i : ℕ) → Paired j i → get_or v.places j 0 ≡ i)
    {Ts : List Tree} {game : RegionGame} (s : IsSolvedBy limits most q Ts game) (known : List (Option ℕ)) (right : AreNegatives Ts known)
    (noted : IsTrue v.colours → (c : Colour) → AreNoted known (layers_for game c)) (forms : HaveForms Ts) where
  abbrev own : RegionGame
  own = own_game known v game

  abbrev there : Colour → Colour
  there c = colour_after v.colours c

  few : length r.cells ≤ 32
  few = omega (arith, full, points)

  graph : IsReturnGraphOf r own.graph
  graph = return_graph_turned q r game.graph v opening s.holds.graph few wide partner

  many : length own.graph.positions ≡ length game.graph.positions
  many = length-map game.graph.positions (own_number v)

  -- the position of a place, and the first region's that is carried onto it
  position : (i : ℕ) (b : List Cell) → IsPlaceOf r (plain_graph own.graph) i b
      → (a : List Cell) × IsPlaceOf q (plain_graph game.graph) i a × Matched q.touch r.touch Paired v.colours a b
  position = position_of q r game.graph v opening s.holds.graph.graph s.holds.graph.few few wide partner

  -- a value of the first region's game and what it is here
  turned_value : (c : Colour) (j i : ℕ) → i < length (ids_with game (there c) j)
      → IsTurnedValue v.colours Ts (get_or (ids_with game (there c) j) i 0) (get_or (ids_with own c j) i 0)
  turned_value c j i lt =
      let ids = ids_with game (there c) j in
      let w = s.holds.layers (there c) in
      let values = w.values j in
      let (cells, has) = graph_position q (plain_graph game.graph) s.holds.graph.graph i (omega (arith, lt, values.long)) in
      let id = get_or ids i 0 in
      let is : get_or (ids_with own c j) i 0 ≡ id_after v.colours known id =
      ap (λ l. get_or l i 0) (ids_own known v game c j) ∙ get_or-map (id_after v.colours known) ids i 0 0 lt in
      subst (IsTurnedValue v.colours Ts id) (sym is) (turned_id v.colours known Ts id (values.known i lt) (values.each i cells has).canonical right
      (λ exchanged. noted exchanged (there c) (min j (length (layers_for game (there c)) - 1))
      (served (layers_for game (there c)) j (omega (arith, w.many))) i lt))

  layers : (c : Colour) → AreLayersOf r own c Ts
  layers c =
      let w = s.holds.layers (there c) in
      let long_ids = λ (j : ℕ). ap (λ (l : List ℕ). length l) (ids_own known v game c j) ∙ length-map (ids_with game (there c) j) (id_after v.colours known) in
      record {
        budget = w.budget;
        many = ap (λ (l : List (List ℕ)). length l) (layers_own known v game c)
            ∙ length-map (layers_for game (there c)) (map (id_after v.colours known)) ∙ w.many;
        few = w.few;
        least = least_over q.touch r.touch q.cells r.cells opening long c w.budget w.least;
        values = λ j. record {
          long = long_ids j ∙ (w.values j).long ∙ sym many;
          known = λ i lt. (turned_value c j i (omega (arith, lt, long_ids j))).known;
          each = λ i b has.
              let (a, at, m) = position i b has in
              let short : i < length (ids_with game (there c) j) = omega (arith, at.inside, (w.values j).long) in
              let V = tree_at Ts (get_or (ids_with game (there c) j) i 0) in
              let W = tree_at Ts (get_or (ids_with own c j) i 0) in
              colour_twice (λ d. IsBudgetValue r.touch d j b W) v.colours c
              (value_over q.touch r.touch m (same_long q.touch r.touch q.cells r.cells opening long m) (there c) j V W
              ((w.values j).each i a at) (turned_value c j i short).canonical);
        };
        within = λ j i lt.
            let short : i < length (ids_with game (there c) j) = omega (arith, lt, many, (w.values j).long) in
            (turned_value c j i short).sizes _ (w.within j i (omega (arith, lt, many)));
      }

  -- no value that is needed is too large
  nothing_large : ¬ HasLargeNeeded r most limits.parts
  nothing_large (c, (j, le, needed, (b, reach, (V, value, large)))) =
      let w = layers c in
      let (i, inside, at) = graph.graph.all b reach in
      let has : IsPlaceOf r (plain_graph own.graph) i b =
      record { inside = inside; reachable = reach; packed = get_or_default own.graph.positions i 0 (pack b) inside ∙ at } in
      let (a, place, m) = position i b has in
      let first = (s.holds.layers (there c)).values j in
      let short : i < length (ids_with game (there c) j) = omega (arith, place.inside, first.long) in
      let id = get_or (ids_with game (there c) j) i 0 in
      let own_id = get_or (ids_with own c j) i 0 in
      let same = one_budget_value r.touch c j b V (tree_at Ts own_id) value ((w.values j).each i b has) in
      let turned = turned_value c j i short in
      elim large as (λ _. ⊥) [
        | inl more ↦ s.sound.forms (
          there c,
          (
            j,
            le,
            λ k lt steady. needed k lt (colour_twice (λ d. IsSteady r.touch r.cells d k) v.colours c
                (steady_over q.touch r.touch q.cells r.cells opening long (there c) k steady)),
            (a, place.reachable, (tree_at Ts id, first.each i a place, inl (turned.parts limits.parts (subst (λ X. HasMoreParts X limits.parts) same more)))),
          ),
        )
        | inr past ↦ within-bounds Ts forms own_id turned.known (subst HasNumberPastBounds same past)
      ]

  pub own_solved : IsSolvedBy limits most r Ts own
  own_solved =
      let fewer = positions_few q.touch q.cells game.graph.positions game.graph.edges limits.positions s.holds.graph.graph s.sound.positions in
      record {
        sound = record {
          points = points;
          positions = not_more r.touch r.cells own.graph.positions own.graph.edges graph.graph limits.positions (omega (arith, fewer, many));
          forms = nothing_large;
          steady = λ c.
              let (j, le, least) = s.sound.steady (there c) in
              (j, le, least_over q.touch r.touch q.cells r.cells opening long c j least);
        };
        holds = record { graph = graph; layers = layers };
      }
