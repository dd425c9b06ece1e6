-- Lists of games, one for each region.
use Rattle.std.specs.Prelude.{ℕ, List, [], slice_index_or, Option, None, Some}
use Rattle.go_grid.specs.declared.grid.Colour.{Colour}
use Rattle.go_grid.specs.declared.grid.Colour.TheVariants.{Black, White}
use Rattle.cycle_solver.specs.declared.region_game.RegionGame.{RegionGame}

-- a game without positions, which stands for one past the last
abbrev pub no_game : RegionGame
no_game = record { graph = record { positions = []; edges = []; components = None; black_order = []; white_order = [] }; black = []; white = None }

-- the game at a place of a list
abbrev pub game_at : List RegionGame → ℕ → RegionGame
game_at games k = slice_index_or games k no_game

-- White's own layers, or Black's where there are none
abbrev pub own_layers : Option (List (List ℕ)) → List (List ℕ) → List (List ℕ)
own_layers None black = black
own_layers (Some white) black = white

-- the layers of a colour's values
abbrev pub layers_for : RegionGame → Colour → List (List ℕ)
layers_for game Black = game.black
layers_for game White = own_layers game.white game.black
