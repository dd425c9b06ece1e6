-- What the values of both colours of a region come to: its game, or its fault.
use Rattle.std.proofs.Common.{ℕ, ◌≡◌, ◌≤◌, ◌⊎◌, sym, subst, List, length, Option, None, Some, Result, Ok, Err, IfOk, IfErr, refl, ◌≢◌}
use Rattle.go_grid.specs.declared.grid.Colour.TheVariants.{Black, White}
use Rattle.go_grid.specs.Region.{Region}
use Rattle.local_graph.specs.declared.graph.TheConstants.{MOST_POSITIONS}
use Rattle.local_graph.specs.ReturnGraph.{ReturnGraph}
use Rattle.region_cut.specs.Cut.{lowest}
use Rattle.short_games.specs.Tree.{Tree}
use Rattle.endgame_solver.specs.Limits.{Limits}
use Rattle.cycle_solver.specs.declared.faults.CycleError.{CycleError}
use Rattle.cycle_solver.specs.declared.faults.CycleError.TheVariants.{Captures}
use Rattle.cycle_solver.specs.declared.region_game.BothValues.{BothValues}
use Rattle.cycle_solver.specs.declared.region_game.RegionGame.{RegionGame}
use Rattle.cycle_solver.specs.Games.{IsGraphWithin, IsRefusalOf, IsSolvedBy, MayBeSteady}
use Rattle.cycle_solver.proofs.CalmLaws.{never_unsteady, one_steady}
use Rattle.cycle_solver.proofs.GameLaws.{captures_fault, solved_by}

module _ (limits : Limits) (most : ℕ) (few : most ≤ 255) (r : Region) (g : ReturnGraph) (points : length r.points ≤ 32)
    (within : IsGraphWithin limits.positions r g) (bound : limits.positions ≤ MOST_POSITIONS) (Ts : List Tree) where
  abbrev game_with : List (List ℕ) → Option (List (List ℕ)) → RegionGame
  game_with black white = record { graph = g; black = black; white = white }

  -- where there is no cycle
  module _ (none : g.components ≡ None) (x : Option (List (List ℕ))) (b : MayBeSteady limits most r g Black Ts x) where
    pub alone_solved : (result : Result BothValues CycleError) → IfOk result (λ both. (x ≡ Some both.black) × (both.white ≡ None))
        → IfOk result (λ both. IsSolvedBy limits most r Ts (record { graph = g; black = both.black; white = both.white }))
    alone_solved (Ok both) (is, same) =
        let black = subst (MayBeSteady limits most r g Black Ts) is b in
        subst (λ w. IsSolvedBy limits most r Ts (game_with both.black w)) (sym same)
        (solved_by limits most r (game_with both.black None) points within bound few Ts black (one_steady limits most within.graph none White black))
    alone_solved (Err e) h = tt

    pub alone_refused : (result : Result BothValues CycleError) (p : ℕ) → IfErr result (λ e. (e ≡ Captures p) × (x ≡ None))
        → IfErr result (IsRefusalOf limits most r)
    alone_refused (Ok both) p h = tt
    alone_refused (Err e) p (is, same) = absurd (never_unsteady limits most within.graph none Black Ts same b)

  -- where there is one
  module _ (x y : Option (List (List ℕ))) (b : MayBeSteady limits most r g Black Ts x) (w : MayBeSteady limits most r g White Ts y) where
    pub together_solved : (result : Result BothValues CycleError)
        → IfOk result (λ both. (x ≡ Some both.black) × (both.white ≡ y) × (y ≢ None))
        → IfOk result (λ both. IsSolvedBy limits most r Ts (record { graph = g; black = both.black; white = both.white }))
    together_solved (Ok both) (is, same, some) =
        subst (λ z. IsSolvedBy limits most r Ts (game_with both.black z)) (sym same) (solved y w some)
      where
        solved : (z : Option (List (List ℕ))) → MayBeSteady limits most r g White Ts z → z ≢ None
            → IsSolvedBy limits most r Ts (game_with both.black z)
        solved None v other = absurd (other refl)
        solved (Some white) v _ = solved_by limits most r (game_with both.black (Some white)) points within bound few Ts
            (subst (MayBeSteady limits most r g Black Ts) is b) v
    together_solved (Err e) h = tt

    pub together_refused : (result : Result BothValues CycleError) (p : ℕ) → p ≡ lowest r
        → IfErr result (λ e. (e ≡ Captures p) × ((x ≡ None) ⊎ (y ≡ None))) → IfErr result (IsRefusalOf limits most r)
    together_refused (Ok both) p low h = tt
    together_refused (Err e) p low (is, none) =
        subst (IsRefusalOf limits most r) (sym is) (captures_fault limits most r g within Ts x y b w none p low)
