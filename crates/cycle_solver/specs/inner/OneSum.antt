-- Where one sum has the values of both players.
use Rattle.std.specs.Prelude.{ℕ, ◌≡◌, List, slice_index_or, IfSome, Option}
use Rattle.go_grid.specs.declared.grid.Colour.{Colour}
use Rattle.go_grid.specs.declared.grid.Colour.TheVariants.{Black, White}
use Rattle.cycle_solver.specs.declared.region_game.RegionGame.{RegionGame}
use Rattle.cycle_solver.specs.GameLists.{game_at}
use Rattle.cycle_solver.specs.Held.{AreSummed, enough, ids_with}

-- one list of ids has both players' values at the places
abbrev pub HaveOneSum : List RegionGame → List ℕ → Type 0
HaveOneSum games places = (ids : List ℕ) × ((c : Colour) → AreSummed games places c enough ids)

-- the values of the one player at the places are those of the other too
abbrev pub AreValuesOf : List RegionGame → List ℕ → Colour → Colour → Type 0
AreValuesOf games places c d = (ids : List ℕ) → AreSummed games places c enough ids → AreSummed games places d enough ids

-- the position that the stone leads to, if there is one, has one value for both players
abbrev pub HasOneValue : List RegionGame → Option (ℕ × ℕ) → Type 0
HasOneValue games stone = IfSome stone (λ x. slice_index_or (ids_with (game_at games x.0) Black enough) x.1 0
    ≡ slice_index_or (ids_with (game_at games x.0) White enough) x.1 0)
