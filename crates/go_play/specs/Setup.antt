-- Positions from which a game opens.
use Rattle.std.specs.Prelude.{◌≡◌, ◌≤◌, ◌<◌, ◌^◌, ℕ, ℤ, unsigned_abs, Result, Ok, Err}
use Rattle.go_grid.specs.declared.grid.Colour.{Colour}
use Rattle.go_grid.specs.declared.grid.Colour.TheVariants.{Black, White}
use Rattle.go_grid.specs.Board.{Board}
use Rattle.go_grid.specs.Chain.{IsFirstUnsettled, IsSettled}
use Rattle.go_play.specs.declared.setup.PositionError.{PositionError}
use Rattle.go_play.specs.declared.setup.PositionError.TheVariants.{Unsettled, Prisoners, Komi, Memory}

-- a position: its board, the stones that each side has taken, the komi in half-points, White's where it is positive, and the
-- side to move
pub record Setup : Type 0 where
  pub board : Board
  pub black_prisoners : ℕ
  pub white_prisoners : ℕ
  pub komi_halves : ℤ
  pub side : Colour

-- the board is settled, the prisoners are below 2 ^ 40, and the komi is of at most 2,000,000 half-points
pub record IsFit (setup : Setup) : Type 0 where
  pub settled : IsSettled setup.board
  pub black : setup.black_prisoners < 2 ^ 40
  pub white : setup.white_prisoners < 2 ^ 40
  pub komi : unsigned_abs setup.komi_halves ≤ 2000000

-- each side has fewer than 2 ^ 39 prisoners, which leaves room for those of many moves
pub record HasFewPrisoners (setup : Setup) : Type 0 where
  pub black : setup.black_prisoners < 2 ^ 39
  pub white : setup.white_prisoners < 2 ^ 39

-- the error isn't of a number
abbrev pub IsOfBoard : PositionError → Type 0
IsOfBoard (Unsettled p) = Unit {0}
IsOfBoard (Prisoners c) = ⊥
IsOfBoard Komi = ⊥
IsOfBoard (Memory e) = Unit {0}

-- what is answered of the parts of a position: the position where they are fit, else what is the first not to fit; want of
-- memory may always be answered
abbrev pub MakesSetup : Setup → Result Setup PositionError → Type 0
MakesSetup parts (Ok setup) = (setup ≡ parts) × IsFit parts
MakesSetup parts (Err (Unsettled p)) = IsFirstUnsettled parts.board p
MakesSetup parts (Err (Prisoners Black)) = IsSettled parts.board × (2 ^ 40 ≤ parts.black_prisoners)
MakesSetup parts (Err (Prisoners White)) = IsSettled parts.board × (parts.black_prisoners < 2 ^ 40) × (2 ^ 40 ≤ parts.white_prisoners)
MakesSetup parts (Err Komi) = IsSettled parts.board × (parts.black_prisoners < 2 ^ 40) × (parts.white_prisoners < 2 ^ 40)
    × (2000000 < unsigned_abs parts.komi_halves)
MakesSetup parts (Err (Memory e)) = Unit {0}
