-- What an attack takes, as a loop over its placings keeps it.
use Rattle.std.specs.Prelude.{◌<◌, ℕ, List, length, slice_index_or}
use Rattle.go_grid.specs.declared.grid.Colour.{Colour}
use Rattle.go_grid.specs.Board.{Board}
use Rattle.benson_attack.specs.inner.Attack.{Takes}
use Rattle.benson_attack.specs.declared.captures.Run.{Run}

-- the placings of run number `i` take the stone
abbrev pub IsTakenBy : Board → Colour → ℕ → List Run → ℕ → Type 0
IsTakenBy g d s runs i = (i < length runs) × ((run : Run) → Takes g d s (slice_index_or runs i run).placings.items)
