-- What holds of each state of a session.
use Rattle.std.specs.Prelude.{◌≤◌, ◌<◌, ◌+◌, ◌*◌, ◌^◌, ℕ, ℤ, List, length, take, unsigned_abs, All}
use Rattle.go_grid.specs.declared.grid.Colour.{Colour}
use Rattle.go_play.specs.Place.{IsSameGround}
use Rattle.board_orders.specs.declared.position.BoardMove.{BoardMove}
use Rattle.board_orders.specs.declared.position.BoardMove.TheVariants.{Stone, Pass, Half}
use Rattle.board_orders.specs.declared.position.MadeMove.{MadeMove}
use Rattle.board_orders.specs.declared.position.Position.{Position}
use Rattle.board_orders.specs.States.{after_moves}
use Rattle.board_orders.specs.Tallies.{number_of}

-- after so many moves on a board: each has taken fewer than 2 ^ 16 stones, and there are no more passes than moves
pub record IsFitAfter (start : Position) (moves : ℕ) (a : Position) : Type 0 where
  pub ground : IsSameGround start.board a.board
  pub prisoners : (c : Colour) → number_of c a.prisoners ≤ number_of c start.prisoners + moves * 65535
  pub passes : (c : Colour) → number_of c a.passes ≤ moves

-- the point of a stone is on the board
abbrev pub IsOnBoard : ℕ → ℕ → BoardMove → Type 0
IsOnBoard columns rows (Stone p) = p < columns * rows
IsOnBoard columns rows Pass = Unit {0}
IsOnBoard columns rows Half = Unit {0}

-- a komi of at most 2,000,000 half-points for either side, with which a position can be opened
abbrev pub IsModest : ℤ → Type 0
IsModest halves = unsigned_abs halves ≤ 2000000

-- each komi is modest, the prisoners at the start are below 2 ^ 39, the position after each of the moves fits, and their stones are on the board
pub record IsFit (halves : ℤ) (setup : Position) (moves : List MadeMove) : Type 0 where
  pub komi : IsModest halves
  pub start : (c : Colour) → number_of c setup.prisoners < 2 ^ 39
  pub positions : (n : ℕ) → n ≤ length moves → IsFitAfter setup n (after_moves setup (take n moves))
  pub stones : All (λ m. IsOnBoard setup.board.columns setup.board.rows m.chosen) moves
  pub komis : All (λ m. IsModest m.komi_before) moves
