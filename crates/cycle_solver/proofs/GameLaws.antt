-- What solving a region with cycles gives: its graph, the values of both colours, or its fault.
use Rattle.std.proofs.Common.{ℕ, ◌≡◌, ◌+◌, ◌*◌, ◌^◌, ◌<◌, ◌≤◌, ◌⊎◌, arith, inl, inr, refl, sym, ◌∙◌, subst, List, [], ◌∷◌, ◌++◌, length, get_or, Option, None, Some}
use Rattle.std.proofs.lemmas.Bool.{cases_lt}
use Rattle.std.proofs.lemmas.List.{get_or_append_left, get_or_default, get_or_push, length_push}
use Rattle.std.proofs.Math.Nat.{mul-le-mul, mul-le-mul_right}
use Rattle.go_grid.specs.declared.grid.Colour.{Colour}
use Rattle.go_grid.specs.declared.grid.Colour.TheVariants.{Black, White}
use Rattle.go_grid.specs.Region.{Region}
use Rattle.local_play.specs.Packed.{pack}
use Rattle.local_graph.specs.declared.graph.TheConstants.{MOST_POSITIONS}
use Rattle.local_graph.specs.ReturnGraph.{ReturnGraph}
use Rattle.region_cut.specs.Cut.{lowest}
use Rattle.short_games.specs.Tree.{Tree}
use Rattle.game_store.specs.Meaning.{Extends}
use Rattle.game_canon.specs.Outcomes.{AreWithin}
use Rattle.game_canon.specs.declared.errors.FormError.TheVariants.{Bounds, Parts}
use Rattle.local_value.specs.BudgetValues.{AreWithinLimits, IsBudgetValueAt, IsNeeded, IsPastLimits, IsReturnGraphOf, budget_size, plain_graph}
use Rattle.local_trees.specs.Steady.{IsBudgetValue, IsLeastSteady}
use Rattle.local_trees.specs.GraphPlaces.{IsPlaceOf}
use Rattle.local_value.proofs.SteadyLaws.{layers-serve}
use Rattle.endgame_solver.specs.ModestGames.{most_value}
use Rattle.endgame_solver.specs.Regions.{region_at}
use Rattle.endgame_solver.specs.Faults.{AreSmallRegions}
use Rattle.endgame_solver.specs.Limits.{Limits}
use Rattle.cycle_solver.specs.CycleFaults.{AreRefused, HasLargeForm, HasLargeNeeded, IsFaultOf}
use Rattle.cycle_solver.specs.declared.faults.CycleError.{CycleError}
use Rattle.cycle_solver.specs.declared.faults.CycleError.TheVariants.{Captures, Form, Memory, Points, Positions}
use Rattle.cycle_solver.specs.declared.region_game.RegionGame.{RegionGame}
use Rattle.cycle_solver.specs.Games.{AreSolvedBelow, IsGraphWithin, IsRefusalOf, IsSolvedBy, MayBeSteady}
use Rattle.cycle_solver.specs.GameLists.{game_at, layers_for, no_game}
use Rattle.cycle_solver.specs.Held.{AreLayersOf, ids_with}

module _ (r : Region) (g : ReturnGraph) (of : IsReturnGraphOf r g) (c : Colour) (limit : ℕ) where
  -- where the values of the graph are within the limits none of a reachable position is too large
  no_large : (j : ℕ) → AreWithinLimits r g c limit j → ¬ HasLargeForm r c j limit
  no_large j within (cells, reach, (V, value, large)) =
      let (i, inside, at) = of.graph.all cells reach in
      let has : IsPlaceOf r (plain_graph g) i cells =
      record { inside = inside; reachable = reach; packed = get_or_default g.positions i 0 (pack cells) inside ∙ at } in
      let there : IsBudgetValueAt r g c j i V = record { cells = cells; place = has; value = value } in
      elim large as (λ _. ⊥) [
        | inl more ↦ within.parts i V there more
        | inr past ↦ within.bounds i V there past
      ]

  -- a value past the limits is too large
  pub past_parts : (j : ℕ) → IsPastLimits r g c limit j Parts → HasLargeForm r c j limit
  past_parts j (i, V, at, more, large) = (at.cells, at.place.reachable, (V, at.value, inl large))

  pub past_bounds : (j : ℕ) → IsPastLimits r g c limit j Bounds → HasLargeForm r c j limit
  past_bounds j (i, V, at, large) = (at.cells, at.place.reachable, (V, at.value, inr large))

module _ (limits : Limits) (most : ℕ) (r : Region) (g : ReturnGraph) (of : IsReturnGraphOf r g) (Ts : List Tree) where
  -- no value that is needed is too large, whether the region is steady for the colour or not
  none_large : (c : Colour) (x : Option (List (List ℕ))) → MayBeSteady limits most r g c Ts x
      → (j : ℕ) → j ≤ most + 1 → IsNeeded r c j → ¬ HasLargeForm r c j limits.parts
  none_large c None (never, within) j le needed = no_large r g of c limits.parts j (within j le)
  none_large c (Some layers) (budget, few, are) j le needed = elim (cases_lt budget j) [
    | inl lt ↦ absurd (needed budget lt are.least.steady)
    | inr ge ↦ no_large r g of c limits.parts j (are.limits j ge)
  ]

  module _ (black white : Option (List (List ℕ))) (b : MayBeSteady limits most r g Black Ts black) (w : MayBeSteady limits most r g White Ts white) where
    pub nothing_large : ¬ HasLargeNeeded r most limits.parts
    nothing_large (Black, (j, le, needed, large)) = none_large Black black b j le needed large
    nothing_large (White, (j, le, needed, large)) = none_large White white w j le needed large

-- numbers of values are small
small_size : (positions cells budget : ℕ) → positions ≤ MOST_POSITIONS → cells ≤ 32 → budget ≤ 255
    → (((budget + 1) * positions) * (cells + 1)) * 2 ^ 60 ≤ 2 ^ 94
small_size positions cells budget few small le =
    let first : (budget + 1) * positions ≤ 256 * MOST_POSITIONS = mul-le-mul {n₂ = 256} {m₂ = MOST_POSITIONS} (omega (arith, le)) few in
    let second : ((budget + 1) * positions) * (cells + 1) ≤ (256 * MOST_POSITIONS) * 33 = mul-le-mul {n₂ = 256 * MOST_POSITIONS} {m₂ = 33} first (omega (arith, small)) in
    let third = mul-le-mul_right (2 ^ 60) second in
    omega (arith, third)

-- A region is solved by its graph and the layers of both colours.
module _ (limits : Limits) (most : ℕ) (r : Region) (game : RegionGame) (points : length r.points ≤ 32) (within : IsGraphWithin limits.positions r game.graph)
    (limit : limits.positions ≤ MOST_POSITIONS) (small : most ≤ 255) (Ts : List Tree) where
  layers_of : (c : Colour) → MayBeSteady limits most r game.graph c Ts (Some (layers_for game c)) → AreLayersOf r game c Ts
  layers_of c (budget, few, are) =
      let serve = layers-serve r game.graph c limits.parts budget Ts (layers_for game c) are in
      record {
        budget = budget;
        many = are.many;
        few = omega (arith, few, small);
        least = are.least;
        values = λ j. (serve j).0;
        within = λ j i lt y h.
            let size = (serve j).1 i lt y h in
            let largest = small_size (length game.graph.positions) (length r.cells) budget (omega (arith, within.few, limit)) within.graph.few
            (omega (arith, few, small)) in
            omega (arith, size, largest);
      }

  pub solved_by : MayBeSteady limits most r game.graph Black Ts (Some (layers_for game Black))
      → MayBeSteady limits most r game.graph White Ts (Some (layers_for game White)) → IsSolvedBy limits most r Ts game
  solved_by b w = record {
    sound = record {
      points = points;
      positions = within.positions;
      forms = nothing_large limits most r game.graph within.graph Ts (Some (layers_for game Black)) (Some (layers_for game White)) b w;
      steady = λ c. steady c;
    };
    holds = record { graph = within.graph; layers = λ c. layers c };
  }
    where
      steady : (c : Colour) → (j : ℕ) × (j ≤ most) × IsLeastSteady r.touch r.cells c j
      steady Black = (b.0, b.1, b.2.least)
      steady White = (w.0, w.1, w.2.least)

      layers : (c : Colour) → AreLayersOf r game c Ts
      layers Black = layers_of Black b
      layers White = layers_of White w

-- or it isn't steady for one of them
pub captures_fault : (limits : Limits) (most : ℕ) (r : Region) (g : ReturnGraph) → IsGraphWithin limits.positions r g → (Ts : List Tree)
    (black white : Option (List (List ℕ))) → MayBeSteady limits most r g Black Ts black → MayBeSteady limits most r g White Ts white
    → (black ≡ None) ⊎ (white ≡ None) → (p : ℕ) → p ≡ lowest r → IsFaultOf limits most r (Captures p)
captures_fault limits most r g within Ts black white b w none p low = (
  low,
  within.positions,
  nothing_large limits most r g within.graph Ts black white b w,
  elim none [
    | inl e ↦ (Black, (subst (MayBeSteady limits most r g Black Ts) e b).0)
    | inr e ↦ (White, (subst (MayBeSteady limits most r g White Ts) e w).0)
  ],
)

-- the values stay as they are while the store grows
pub maybe_later : (limits : Limits) (most : ℕ) (r : Region) (g : ReturnGraph) (c : Colour) (Ts Us : List Tree) (x : Option (List (List ℕ)))
    → Extends Ts Us → MayBeSteady limits most r g c Ts x → MayBeSteady limits most r g c Us x
maybe_later limits most r g c Ts Us None e m = m
maybe_later limits most r g c Ts Us (Some layers) e (budget, few, are) = (
  budget,
  few,
  record {
    many = are.many;
    least = are.least;
    values = λ j le.
        let v = are.values j le in record {
          long = v.long;
          known = λ i lt. omega (arith, v.known i lt, e.longer);
          each = λ i cells h.
              let short : i < length (get_or layers j []) = omega (arith, h.inside, v.long) in
              subst (IsBudgetValue r.touch c j cells) (sym (e.same (get_or (get_or layers j []) i 0) (v.known i short))) (v.each i cells h);
        };
    sizes = λ j i le lt.
        let short : i < length (get_or layers j []) = omega (arith, lt, (are.values j le).long) in
        subst (AreWithin (budget_size r g j)) (sym (e.same (get_or (get_or layers j []) i 0) ((are.values j le).known i short))) (are.sizes j i le lt);
    limits = are.limits;
  },
)

-- Regions one after the other.

pub game_later : {limits : Limits} {most : ℕ} {r : Region} {Ts Us : List Tree} {game : RegionGame} → Extends Ts Us → IsSolvedBy limits most r Ts game
    → IsSolvedBy limits most r Us game
game_later {r = r} {Ts} {Us} {game} e s = record {
  sound = s.sound;
  holds = record {
    graph = s.holds.graph;
    layers = λ c.
        let w = s.holds.layers c in record {
          budget = w.budget;
          many = w.many;
          few = w.few;
          least = w.least;
          values = λ j.
              let v = w.values j in record {
                long = v.long;
                known = λ i lt. omega (arith, v.known i lt, e.longer);
                each = λ i cells h.
                    let short : i < length (ids_with game c j) = omega (arith, h.inside, v.long) in
                    subst (IsBudgetValue r.touch c j cells) (sym (e.same (get_or (ids_with game c j) i 0) (v.known i short))) (v.each i cells h);
              };
          within = λ j i lt.
              let short : i < length (ids_with game c j) = omega (arith, lt, (w.values j).long) in
              subst (AreWithin most_value) (sym (e.same (get_or (ids_with game c j) i 0) ((w.values j).known i short))) (w.within j i lt);
        };
  };
}

pub none_solved : (limits : Limits) (most : ℕ) (regions : List Region) (Ts : List Tree) → AreSolvedBelow limits most regions [] Ts 0
none_solved limits most regions Ts = record { many = refl; each = λ k lt. absurd (omega (arith, lt)) }

pub one_more : {limits : Limits} {most : ℕ} {regions : List Region} {games : List RegionGame} {Ts Us : List Tree} {n : ℕ} (game : RegionGame)
    → Extends Ts Us → AreSolvedBelow limits most regions games Ts n → IsSolvedBy limits most (region_at regions n) Us game
    → AreSolvedBelow limits most regions (games ++ game ∷ []) Us (n + 1)
one_more {limits} {most} {regions} {games} {Ts} {Us} {n} game e w s = record {
  many = omega (arith, length_push games game, w.many);
  each = λ k lt. elim (cases_lt k n) as (λ _. Solved k) [
    | inl less ↦ subst (IsSolvedBy limits most (region_at regions k) Us) (sym (get_or_append_left games (game ∷ []) no_game k (omega (arith, less, w.many))))
        (game_later e (w.each k less))
    | inr ge ↦
        let same : k ≡ n = omega (arith, lt, ge) in
        subst Solved (sym same) (subst (IsSolvedBy limits most (region_at regions n) Us) (sym (get_or_push games game no_game n w.many)) s)
  ];
}
  where
    Solved : ℕ → Type 0
    Solved k = IsSolvedBy limits most (region_at regions k) Us (game_at (games ++ game ∷ []) k)

-- the fault of a region before which all are steady is the refusal
pub refused_at : {limits : Limits} {most : ℕ} {regions : List Region} {games : List RegionGame} {Ts : List Tree} {n : ℕ} → n < length regions
    → AreSmallRegions regions → AreSolvedBelow limits most regions games Ts n → (e : CycleError)
    → IsRefusalOf limits most (region_at regions n) e → AreRefused limits most regions e
refused_at lt small s (Points p m) h = absurd h
refused_at {n = n} lt small s (Positions p) h = (small, (n, lt, h, λ j less. (s.each j less).sound))
refused_at {n = n} lt small s (Form p) h = (small, (n, lt, h, λ j less. (s.each j less).sound))
refused_at {n = n} lt small s (Captures p) h = (small, (n, lt, h, λ j less. (s.each j less).sound))
refused_at lt small s (Memory e) h = tt
