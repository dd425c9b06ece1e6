-- The next place at which a stone is tried.
use Rattle.std.specs.Prelude.{ℕ, ◌+◌, List, Option, None, Some}
use Rattle.go_grid.specs.declared.grid.Cell.{Cell}
use Rattle.go_grid.specs.declared.region.Touch.{Touch}
use Rattle.local_play.specs.declared.local_move.LocalMove.{LocalMove}
use Rattle.local_play.specs.declared.local_moves.LocalMoves.{LocalMoves}
use Rattle.local_play.specs.GivenMoves.{HaveGivenTurn}
use Rattle.local_play.specs.Places.{Has}
use Rattle.local_play.specs.inner.Giving.{IsGiving}

-- the place is the next to try, or all moves of the turn's colour were given
abbrev pub IsTaken : List Touch → List Cell → List LocalMove → LocalMoves → Option ℕ → Type 0
IsTaken touch cells given s None = HaveGivenTurn touch cells given s
IsTaken touch cells given s (Some p) =
    Has s.turn.empty p × IsGiving touch cells given s p (p + 1)
