-- Chains of a local position, and what a placing frees and takes.
use Rattle.std.specs.Prelude.{ℕ, List}
use Rattle.go_grid.specs.declared.grid.Cell.{Cell}
use Rattle.go_grid.specs.declared.grid.Colour.{Colour}
use Rattle.go_grid.specs.declared.region.Touch.{Touch}
use Rattle.go_grid.specs.Play as play
use Rattle.local_play.specs.LocalPlay.{IsLinked, IsBeside}

-- a path over stones of the colour along links joins the two places
abbrev pub InLocalChain : List Touch → List Cell → Colour → ℕ → ℕ → Type 0
InLocalChain touch = play.InChain (IsLinked touch)

-- the place is linked to an empty place
abbrev pub IsOpen : List Touch → List Cell → ℕ → Type 0
IsOpen touch = play.IsOpen (IsLinked touch)

-- the chain of the place is free: one of its places is linked to an empty place or next to an alive stone of its colour
abbrev pub IsFree : List Touch → List Cell → Colour → ℕ → Type 0
IsFree touch = play.IsFree (IsLinked touch) (IsBeside touch)

-- the place is in a chain of the colour that is linked to `p` and isn't free
abbrev pub IsRemoved : List Touch → List Cell → ℕ → Colour → ℕ → Type 0
IsRemoved touch = play.IsTaken (IsLinked touch) (IsBeside touch)
