-- The laws of walls, for games in any form.
use Rattle.std.specs.Prelude.{ℕ, ◌≡◌, ◌≤◌, ℤ}
use Rattle.short_games.specs.Tree.{Tree}
use Rattle.short_games.specs.Order.{◌≡ᵍ◌}
use Rattle.short_games.specs.Number.{num, IsNumber}
use Rattle.short_games.specs.GameStops.{HasLeftStop, HasRightStop}
use Rattle.short_games.specs.WallGrids.{IsMeeting}
use Rattle.short_games.specs.GameWalls.{AreWallsOf}

-- each game has walls on each grid that is fine enough
abbrev pub GamesHaveWalls : Type 0
GamesHaveWalls = (G : Tree) → (e : ℕ) × ((k : ℕ) → e ≤ k → (l : ℕ → ℤ) × (r : ℕ → ℤ) × AreWallsOf k G l r)

-- equal games have equal walls
abbrev pub EqualGamesHaveEqualWalls : Type 0
EqualGamesHaveEqualWalls = (k : ℕ) (G H : Tree) (l r l' r' : ℕ → ℤ) → G ≡ᵍ H → AreWallsOf k G l r → AreWallsOf k H l' r' → (t : ℕ) → (l t ≡ l' t) × (r t ≡ r' t)

-- at 0 the walls of a game are its stops
abbrev pub GameWallsBeginAtStops : Type 0
GameWallsBeginAtStops = (k : ℕ) (G : Tree) (l r : ℕ → ℤ) → AreWallsOf k G l r → (x : ℤ) → (HasLeftStop k G x → x ≡ l 0) × (HasRightStop k G x → x ≡ r 0)

-- the thermograph of a game that is equal to a number is a mast at the number
abbrev pub NumbersAreMasts : Type 0
NumbersAreMasts = (k : ℕ) (G : Tree) (x : ℤ) (l r : ℕ → ℤ) → G ≡ᵍ num k x → AreWallsOf k G l r → (t : ℕ) → (l t ≡ x) × (r t ≡ x)

-- a game that is equal to no number has a temperature and a mean
abbrev pub GamesHaveTemperatures : Type 0
GamesHaveTemperatures = (k : ℕ) (G : Tree) (l r : ℕ → ℤ) → (IsNumber G → ⊥) → AreWallsOf k G l r → (u : ℕ) × (x : ℤ) × IsMeeting l r u x
