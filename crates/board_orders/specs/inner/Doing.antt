-- What private calls leave behind.
use Rattle.std.specs.Prelude.{◌≡◌, ◌⊎◌, ◌+◌, ◌<◌, ◌≤◌, ◌++◌, ◌∷◌, [], ◌^◌, ◌*◌, ℕ, List, All, Option, Some, None}
use Rattle.go_grid.specs.Board.{Board}
use Rattle.go_grid.specs.declared.grid.Colour.{Colour}
use Rattle.go_play.specs.Place.{IsSameGround}
use Rattle.board_orders.specs.declared.position.BoardMove.{BoardMove}
use Rattle.board_orders.specs.declared.position.MadeMove.{MadeMove}
use Rattle.board_orders.specs.declared.position.Position.{Position as BoardPosition}
use Rattle.board_orders.specs.declared.refusal.Refusal.{Refusal}
use Rattle.board_orders.specs.declared.wanted.Wanted.{Wanted}
use Rattle.board_orders.specs.Handicaps.{CannotPut, IsSomeAstray, NamePoints, PutsStones}
use Rattle.board_orders.specs.Doing.{IsMadeBy}
use Rattle.board_orders.specs.Positions.{IsIllegal, MakesMove, move_for}
use Rattle.board_orders.specs.Effects.{Said, SetsOut, reply_text}
use Rattle.board_orders.specs.States.{BoardState, present}
use Rattle.board_orders.specs.Tallies.{number_of}

-- the prisoners and passes of one move more can be counted
abbrev pub HasRoom : BoardPosition → Type 0
HasRoom a = (c : Colour) → (number_of c a.prisoners + 65535 < 2 ^ 64) × (number_of c a.passes + 1 < 2 ^ 64)

-- the position after a move, or that it may not be made
abbrev pub IsOutcome : Colour → BoardMove → BoardPosition → Option BoardPosition → Type 0
IsOutcome c m a (Some b) = MakesMove c m a b
IsOutcome c m a None = IsIllegal c m a

-- a move leaves a board of the same size, takes fewer stones than a count of 16 bits holds, and is one pass at most
pub record GrowsTo (a b : BoardPosition) : Type 0 where
  pub ground : IsSameGround a.board b.board
  pub prisoners : (c : Colour) → number_of c b.prisoners ≤ number_of c a.prisoners + 65535
  pub passes : (c : Colour) → number_of c b.passes ≤ number_of c a.passes + 1

-- the move that a word names, with the position after it, or that it may not be made
abbrev pub IsMade : Colour → Wanted → BoardState → Option MadeMove → Type 0
IsMade c w s (Some made) = (m : BoardMove) × (move_for (present s).board.columns (present s).board.rows w ≡ Some m)
    × IsMadeBy c m s (Some made)
IsMade c w s None = (move_for (present s).board.columns (present s).board.rows w ≡ None)
    ⊎ ((m : BoardMove) × (move_for (present s).board.columns (present s).board.rows w ≡ Some m) × IsMadeBy c m s None)

-- the move is the last one of the first state, and the second one lacks it
abbrev pub IsLast : BoardState → BoardState → MadeMove → Type 0
IsLast s u made = (s.moves ≡ u.moves ++ made ∷ []) × (u ≡ record s { moves = u.moves })

-- the board with Black stones at the points, or that one of them may not be placed
abbrev pub IsPut : Board → List ℕ → Option Board → Type 0
IsPut g points (Some h) = PutsStones g points h
IsPut g points None = CannotPut g points

-- the reply to stones that are set out, and the state after it
abbrev pub IsSetOut : List ℕ → Refusal → List ℕ → List ℕ → BoardState → List ℕ → BoardState → Type 0
IsSetOut text why points id s reply u = (said : Said) × SetsOut text why points s said u × (reply ≡ reply_text id said)

-- the points that the words name, or that one of the words names none
abbrev pub AreRead : ℕ → ℕ → List (List ℕ) → Option (List ℕ) → Type 0
AreRead columns rows words (Some points) = NamePoints columns rows words points × All (λ p. p < columns * rows) points
AreRead columns rows words None = IsSomeAstray columns rows words
