-- Placing a stone on a board, and lists of placings that nobody answers.
use Rattle.std.specs.Prelude.{◌≡◌, ◌<◌, ℕ, List, [], ◌∷◌, length, Result, Ok, Err}
use Rattle.go_grid.specs.declared.grid.Cell.{Cell}
use Rattle.go_grid.specs.declared.grid.Colour.{Colour}
use Rattle.go_grid.specs.Board.{Board, NextTo, HasStone, IsEmpty, IsUndeclared, other}
use Rattle.go_grid.specs.Play as play
use Rattle.go_play.specs.declared.placements.PlaceError.{PlaceError}
use Rattle.go_play.specs.declared.placements.PlaceError.TheVariants.{Occupied, Suicide}

-- `q` is a point of the board next to `p`
abbrev pub IsBy : Board → ℕ → ℕ → Type 0
IsBy g p q = (q < length g.cells) × NextTo g.columns p q

-- no stone of a board is free by itself: a chain is free where it has a liberty
abbrev pub Never : Colour → ℕ → Type 0
Never c p = ⊥

-- a stone of the colour at `p` takes what stands at `q`: a stone of the other colour whose chain is next to `p` and then has no
-- liberty
abbrev pub IsTaken : Board → ℕ → Colour → ℕ → Type 0
IsTaken g p c q = play.IsTaken (IsBy g) Never (play.with_stone g.cells p c) p (other c) q

-- the cells of a board after a stone at `p`, without what it takes
abbrev pub IsCleared : Board → ℕ → Colour → List Cell → Type 0
IsCleared g p c cells = play.IsWithout (play.with_stone g.cells p c) (IsTaken g p c) cells

-- the chain of `p` has a liberty, where the board holds these cells
abbrev pub Breathes : Board → List Cell → Colour → ℕ → Type 0
Breathes g cells c p = play.IsFree (IsBy g) Never cells c p

-- two boards are of one size, with the same points declared
pub record IsSameGround (g h : Board) : Type 0 where
  pub columns : h.columns ≡ g.columns
  pub rows : h.rows ≡ g.rows
  pub declared : h.declared ≡ g.declared

-- `h` is `g` after a stone of the colour at `p`, with what it takes off the board
abbrev pub IsPlaced : Board → ℕ → Colour → Board → Type 0
IsPlaced g p c h = IsSameGround g h × play.IsPlaced (IsBy g) Never g.cells p c h.cells

-- how many stones the second board lacks of the first with its new stone
abbrev pub IsNumberTaken : Board → Board → ℕ → Type 0
IsNumberTaken g h n = play.IsNumberTaken g.cells h.cells n

-- placings of one colour at points that aren't declared, one after the other, each legal on the board that the earlier ones leave
abbrev pub Placings : Colour → Board → List ℕ → Board → Type 0
Placings c g [] h = g ≡ h
Placings c g (p ∷ ps) h = IsUndeclared g p × ((m : Board) × IsPlaced g p c m × Placings c m ps h)

-- after every list of such placings of the other colour the stone still stands
abbrev pub Stands : Board → Colour → ℕ → Type 0
Stands g c s = (ps : List ℕ) (h : Board) → Placings (other c) g ps h → HasStone h c s

-- what the new stone takes can be cleared away, and then the new stone's chain has no liberty
abbrev pub IsSuicide : Board → ℕ → Colour → Type 0
IsSuicide g p c = (cells : List Cell) × IsCleared g p c cells × ¬ Breathes g cells c p

-- what a placing answers: the stones taken, or why it is refused
abbrev pub PlacesStone : Board → ℕ → Colour → Board → Result ℕ PlaceError → Type 0
PlacesStone g p c h (Ok n) = IsPlaced g p c h × IsNumberTaken g h n
PlacesStone g p c h (Err Occupied) = (h ≡ g) × ¬ IsEmpty g p
PlacesStone g p c h (Err Suicide) = (h ≡ g) × IsEmpty g p × IsSuicide g p c
