-- A state of the whole game as a game of several parts.
use Rattle.std.specs.Prelude.{ℕ, suc, ◌≡◌, ◌≢◌, ◌<◌, List, [], ◌∷◌, Contains, length}
use Rattle.go_grid.specs.declared.grid.Colour.{Colour}
use Rattle.go_grid.specs.Board.{Board}
use Rattle.go_play.specs.Place.{IsPlaced, IsNumberTaken}
use Rattle.benson_life.specs.Region.{IsContested}
use Rattle.whole_rules.specs.WholeGame.{Whole}
use Rattle.benson_life.specs.Walls.{WallsStand}
use Rattle.local_trees.specs.LocalGame.{Step}
use Rattle.endgame_solver.specs.SumGame.{State}

-- `InPart i p`: the point is in the part; `Shown h i q`: the board holds the local position in the part
module _ (P : Type 0) (moves : Colour → P → List (Step P)) (InPart : ℕ → ℕ → Type 0) (Shown : Board → ℕ → P → Type 0) where
  -- the parts other than `i` hold on the second board what they held on the first
  abbrev pub OthersStay : ℕ → Board → Board → Type 0
  OthersStay i h k = (j : ℕ) (q : P) → j ≢ i → Shown h j q → Shown k j q

  -- a placing on the board is a local move of the point's part
  abbrev pub IsPlayedIn : Board → Colour → Board → ℕ → ℕ → P → Type 0
  IsPlayedIn h c k n i q = (x : Step P) × Contains (moves c q) x × (x.taken ≡ n) × Shown k i x.to × OthersStay i h k

  -- a local move of a part is a placing on the board
  abbrev pub IsPlayableIn : Board → Colour → ℕ → Step P → Type 0
  IsPlayableIn h c i x = (p : ℕ) × ((k : Board) × InPart i p × IsPlaced h p c k × IsNumberTaken h k x.taken × Shown k i x.to × OthersStay i h k)

  -- local play of `parts` parts is play on each board on which the walls of `g` stand
  pub record IsLocalPlay (g : Board) (parts : ℕ) : Type 0 where
    pub covers : (p : ℕ) → IsContested g p → (i : ℕ) × (i < parts) × InPart i p
    pub within : (i p : ℕ) → i < parts → InPart i p → IsContested g p
    pub played : (h k : Board) (c : Colour) (p n i : ℕ) (q : P) → WallsStand g h → i < parts → InPart i p → Shown h i q
        → IsPlaced h p c k → IsNumberTaken h k n → IsPlayedIn h c k n i q
    pub playable : (h : Board) (c : Colour) (i : ℕ) (q : P) (x : Step P) → WallsStand g h → i < parts → Shown h i q
        → Contains (moves c q) x → IsPlayableIn h c i x

  -- the board holds the positions, in parts from `i` on
  abbrev pub AllShown : Board → ℕ → List P → Type 0
  AllShown h i [] = Unit {0}
  AllShown h i (q ∷ qs) = Shown h i q × AllShown h (suc i) qs

  -- the state has the parts' positions on its board, and the same purses and turn
  pub record IsSeenAs (parts : ℕ) (s : Whole) (u : State P) : Type 0 where
    pub count : length u.parts ≡ parts
    pub shown : AllShown s.board 0 u.parts
    pub purses : s.purses ≡ u.purses
    pub turn : s.side ≡ u.side
