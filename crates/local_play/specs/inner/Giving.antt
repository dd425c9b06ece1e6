-- Moves that are given one after another: what was given of each colour, and what is left to try.
use Rattle.std.specs.Prelude.{◌≡◌, ℕ, ◌<◌, ◌≤◌, ◌↔◌, List, [], ◌++◌, length, Contains}
use Rattle.std.specs.List.{AllPairs}
use Rattle.go_grid.specs.declared.grid.Cell.{Cell}
use Rattle.go_grid.specs.declared.grid.Colour.{Colour}
use Rattle.go_grid.specs.declared.grid.Colour.TheVariants.{Black, White}
use Rattle.go_grid.specs.declared.region.Touch.{Touch}
use Rattle.local_play.specs.declared.local_move.LocalMove.{LocalMove}
use Rattle.local_play.specs.declared.local_moves.LocalMoves.{LocalMoves}
use Rattle.local_play.specs.LocalPlay.{IsLocalMove}
use Rattle.local_play.specs.Moves.{IsMoveFrom}
use Rattle.local_play.specs.Places.{Has}
use Rattle.local_play.specs.inner.Lasting.{IsTurn}

-- the list has the moves of the colour at places below `n`, by place
pub record ListsBelow (touch : List Touch) (cells : List Cell) (c : Colour) (n : ℕ)
    (moves : List LocalMove) : Type 0 where
  pub each : (m : LocalMove) → Contains moves m
      → (m.colour ≡ c) × (m.place < n) × IsMoveFrom touch cells m
  pub all : (p : ℕ) (after : List Cell) → p < n → IsLocalMove touch cells c p after
      → (m : LocalMove) × Contains moves m × (m.place ≡ p)
  pub rising : AllPairs (λ m n'. m.place < n'.place) moves

-- the moves before those of the colour: none before Black's, and all of Black's before White's
abbrev pub AreEarlier : List Touch → List Cell → Colour → List LocalMove → Type 0
AreEarlier touch cells Black earlier = earlier ≡ []
AreEarlier touch cells White earlier = ListsBelow touch cells Black (length touch) earlier

-- the moves of the turn's colour at places below `n` were given, and its empty places from `m` on are left
pub record IsGiving (touch : List Touch) (cells : List Cell) (given : List LocalMove)
    (s : LocalMoves) (n m : ℕ) : Type 0 where
  pub turn : IsTurn touch cells s.turn
  pub earlier : List LocalMove
  pub before : AreEarlier touch cells s.turn.colour earlier
  pub more : List LocalMove
  pub appended : given ≡ earlier ++ more
  pub below : ListsBelow touch cells s.turn.colour n more
  pub left : (q : ℕ) → Has s.rest q ↔ (Has s.turn.empty q × (m ≤ q))
