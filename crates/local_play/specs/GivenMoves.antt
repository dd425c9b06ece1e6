-- Moves of a position that are given one after another.
use Rattle.std.specs.Prelude.{◌≡◌, ℕ, ◌+◌, ◌^◌, List, [], ◌∷◌, ◌++◌, Option, None, Some, Bool, true, false, length}
use Rattle.go_grid.specs.declared.grid.Cell.{Cell}
use Rattle.go_grid.specs.declared.grid.Colour.{Colour}
use Rattle.go_grid.specs.declared.grid.Colour.TheVariants.{Black, White}
use Rattle.go_grid.specs.declared.region.Touch.{Touch}
use Rattle.local_play.specs.declared.local_move.LocalMove.{LocalMove}
use Rattle.local_play.specs.declared.local_moves.LocalMoves.{LocalMoves}
use Rattle.local_play.specs.Moves.{ListsLocalMoves}
use Rattle.local_play.specs.inner.Lasting.{IsTurn}
use Rattle.local_play.specs.inner.Giving.{IsGiving, AreEarlier, ListsBelow}

-- these moves of the position were given so far, and the others are left, in order
pub record HaveGiven (touch : List Touch) (cells : List Cell) (given : List LocalMove)
    (s : LocalMoves) : Type 0 where
  pub below : ℕ
  pub giving : IsGiving touch cells given s below below

-- all moves of the colour whose turn it is were given, and those of the other before them
pub record HaveGivenTurn (touch : List Touch) (cells : List Cell) (given : List LocalMove)
    (s : LocalMoves) : Type 0 where
  pub turn : IsTurn touch cells s.turn
  pub earlier : List LocalMove
  pub before : AreEarlier touch cells s.turn.colour earlier
  pub more : List LocalMove
  pub appended : given ≡ earlier ++ more
  pub whole : ListsBelow touch cells s.turn.colour (length touch) more

-- the move was given behind the others, or there is none of that colour any more
abbrev pub IsGiven : List Touch → List Cell → List LocalMove → LocalMoves → Option LocalMove
    → Type 0
IsGiven touch cells given s None = HaveGivenTurn touch cells given s
IsGiven touch cells given s (Some m) = HaveGiven touch cells (given ++ m ∷ []) s

-- it is the other colour's turn, or all moves of the position were given
abbrev pub IsPassed : List Touch → List Cell → List LocalMove → LocalMoves → Bool → Type 0
IsPassed touch cells given s true = HaveGiven touch cells given s
IsPassed touch cells given s false = ListsLocalMoves touch cells given

-- more than all sets of places where White's moves are still to come
abbrev pub turns_left : Colour → ℕ
turns_left Black = 2 ^ 64
turns_left White = 0

-- what is left to try, as a number that falls with each try
abbrev pub tries_left : LocalMoves → ℕ
tries_left s = turns_left s.turn.colour + s.rest.0
