-- The laws of walls, of which a tree that isn't canonical may have others than its game: see `Walls`.
use Rattle.std.specs.Prelude.{ℕ, suc, ◌+◌, ◌≡◌, ◌≤◌, ◌↔◌, ◌⊎◌, ℤ, pos, ◌+ℤ◌, ◌≤ℤ◌}
use Rattle.short_games.specs.Tree.{Tree}
use Rattle.short_games.specs.Number.{IsNumberTree}
use Rattle.short_games.specs.TextOrder.{IsCanonicalTree}
use Rattle.short_games.specs.Parts.{IsFollower}
use Rattle.short_games.specs.Stops.{IsLeftStop, IsRightStop}
use Rattle.short_games.specs.Walls.{IsLeftWall, IsRightWall}
use Rattle.short_games.specs.WallGrids.{Bends, HasWalls, finer, IsMeeting, HasTemperatureBetween}

-- a canonical tree has walls on each grid that is fine enough
abbrev pub WallsExist : Type 0
WallsExist = (G : Tree) → IsCanonicalTree G → (e : ℕ) × ((k : ℕ) → e ≤ k → (l : ℕ → ℤ) × (r : ℕ → ℤ) × HasWalls k G l r)

-- a tree has at most one left and one right wall on a grid
abbrev pub WallsAreUnique : Type 0
WallsAreUnique = (k : ℕ) (G : Tree) (l r l' r' : ℕ → ℤ) → HasWalls k G l r → HasWalls k G l' r' → (t : ℕ) → (l t ≡ l' t) × (r t ≡ r' t)

-- where a tree has walls on a grid it has them on the next finer one, and there they are straight between two neighbours
abbrev pub WallsGoOn : Type 0
WallsGoOn = (k : ℕ) (G : Tree) (l r : ℕ → ℤ) → HasWalls k G l r → HasWalls (suc k) G (finer l) (finer r)

-- at 0 the walls of a tree are its stops
abbrev pub WallsBeginAtStops : Type 0
WallsBeginAtStops = (k : ℕ) (G : Tree) (l r : ℕ → ℤ) → HasWalls k G l r → IsLeftStop k G (l 0) × IsRightStop k G (r 0)

-- a game with walls that is no number has a temperature and a mean, the mast's value
abbrev pub TemperaturesExist : Type 0
TemperaturesExist = (k : ℕ) (G : Tree) (l r : ℕ → ℤ) → HasWalls k G l r → (IsNumberTree G → ⊥) → (u : ℕ) × (x : ℤ) × IsMeeting l r u x

-- from the temperature on both walls are the mast, at the mean
abbrev pub MastStands : Type 0
MastStands = (k : ℕ) (G : Tree) (l r : ℕ → ℤ) → HasWalls k G l r → (u : ℕ) (x : ℤ) → IsMeeting l r u x → (t : ℕ) → u ≤ t → (l t ≡ x) × (r t ≡ x)

-- the right wall is at most the left wall
abbrev pub WallsAreOrdered : Type 0
WallsAreOrdered = (k : ℕ) (G : Tree) (l r : ℕ → ℤ) → HasWalls k G l r → (t : ℕ) → r t ≤ℤ l t

-- from each place to the next the left wall stands or falls by one place, and the right wall stands or rises by one: walls
-- are upright or diagonal
abbrev pub WallsAreUprightOrDiagonal : Type 0
WallsAreUprightOrDiagonal = (k : ℕ) (G : Tree) (l r : ℕ → ℤ) → HasWalls k G l r
    → (t : ℕ) → ((l (suc t) ≡ l t) ⊎ (l (suc t) +ℤ pos 1 ≡ l t)) × ((r (suc t) ≡ r t) ⊎ (r (suc t) ≡ r t +ℤ pos 1))

-- where a game has walls on a grid, the temperature of no follower lies between two places of it
abbrev pub NoneBetween : Type 0
NoneBetween = (k : ℕ) (G P : Tree) (l r : ℕ → ℤ) → HasWalls k G l r → IsFollower G P → HasTemperatureBetween k P → ⊥

-- where a game has walls on a grid, its walls on the next finer grid bend at no place that lies between two of the first
abbrev pub NoneBendsBetween : Type 0
NoneBendsBetween = (k : ℕ) (G : Tree) (l r l' r' : ℕ → ℤ) → HasWalls k G l r → HasWalls (suc k) G l' r' → (t : ℕ) → (Bends l' (suc (t + t)) → ⊥) × (Bends r' (suc (t + t)) → ⊥)

-- Where a tree has walls on a grid, its walls by their rule are these at each place of the grid
abbrev pub WallsAreOnGrids : Type 0
WallsAreOnGrids = (k : ℕ) (G : Tree) (l r : ℕ → ℤ) → HasWalls k G l r → (t : ℕ) (x : ℤ) → (IsLeftWall G k t x ↔ (x ≡ l t)) × (IsRightWall G k t x ↔ (x ≡ r t))
