-- The outcome of a placing.
use Rattle.std.specs.Prelude.{◌≡◌, ℕ}
use Rattle.go_grid.specs.declared.grid.Colour.{Colour}
use Rattle.go_grid.specs.Board.{Board}
use Rattle.go_play.specs.Place.{IsPlaced}

-- a stone at a point leads from one board to at most one other
abbrev pub PlacingHasOneOutcome : Type 0
PlacingHasOneOutcome = (g h k : Board) (p : ℕ) (c : Colour) → IsPlaced g p c h → IsPlaced g p c k → h ≡ k
