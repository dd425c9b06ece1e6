-- States of a board session.
use Rattle.std.specs.Prelude.{◌≡◌, ◌*◌, ◌++◌, ◌∷◌, ℕ, ℤ, pos, List, [], replicate}
use Rattle.go_grid.specs.Board.{Board}
use Rattle.go_grid.specs.declared.grid.Cell.TheVariants as cell
use Rattle.go_grid.specs.declared.grid.Colour.{Colour}
use Rattle.go_play.specs.Setup.{Setup}
use Rattle.board_orders.specs.declared.position.BoardMove.{BoardMove}
use Rattle.board_orders.specs.declared.position.MadeMove.{MadeMove}
use Rattle.board_orders.specs.declared.position.Position.{Position}

-- the komi, the number of handicap stones, the position before the first move, and the moves so far, each with the komi before it
-- and the position after it
pub record BoardState : Type 0 where
  pub komi_halves : ℤ
  pub handicap : ℕ
  pub setup : Position
  pub moves : List MadeMove

-- the position after the moves
abbrev pub after_moves : Position → List MadeMove → Position
after_moves a [] = a
after_moves a (m ∷ moves) = after_moves m.after moves

-- the position on the board
abbrev pub present : BoardState → Position
present s = after_moves s.setup s.moves

-- a board with these prisoners, before any move
abbrev pub taken_up : Board → ℕ → ℕ → Position
taken_up g black white = record { board = g; prisoners = record { black = black; white = white }; passes = record { black = 0; white = 0 } }

-- a board before any move: no prisoners and no passes
abbrev pub unplayed : Board → Position
unplayed g = taken_up g 0 0

-- the empty board of the size
abbrev pub bare : ℕ → ℕ → Position
bare columns rows = unplayed (record { columns = columns; rows = rows; cells = replicate (columns * rows) cell.Empty; declared = [] })

-- an empty board of the size, and no moves
abbrev pub fresh : ℕ → ℕ → ℤ → BoardState
fresh columns rows halves = record { komi_halves = halves; handicap = 0; setup = bare columns rows; moves = [] }

-- where a session begins: an empty board of 19 by 19 without a komi
abbrev pub first_state : BoardState
first_state = fresh 19 19 (pos 0)

-- a board with so many handicap stones, and no moves
abbrev pub with_stones : BoardState → ℕ → Board → BoardState
with_stones s n g = record { komi_halves = s.komi_halves; handicap = n; setup = unplayed g; moves = [] }

-- the state after a move more, which leads to the position
abbrev pub with_move : BoardState → Colour → BoardMove → Position → BoardState
with_move s c m b = record s { moves = s.moves ++ record { colour = c; chosen = m; komi_before = s.komi_halves; after = b } ∷ [] }

-- the position of a file, and no moves
abbrev pub of_setup : Setup → BoardState
of_setup setup = record {
  komi_halves = setup.komi_halves;
  handicap = 0;
  setup = taken_up setup.board setup.black_prisoners setup.white_prisoners;
  moves = [];
}

-- the second state was that before the first one's last move
pub record IsBeforeLast (s u : BoardState) : Type 0 where
  pub last : MadeMove
  pub moves : s.moves ≡ u.moves ++ last ∷ []
  pub komi : u.komi_halves ≡ last.komi_before
  pub setup : u.setup ≡ s.setup
  pub handicap : u.handicap ≡ s.handicap
