-- Moves that return, and captures.
use Rattle.std.specs.Prelude.{◌≡◌, ℕ, ◌+◌, ◌*◌, ◌<◌, ◌≤◌, ◌⊎◌, List, [], ◌∷◌, length, drop, Contains}
use Rattle.go_grid.specs.declared.grid.Cell.{Cell}
use Rattle.go_grid.specs.declared.grid.Colour.{Colour}
use Rattle.go_grid.specs.declared.region.Touch.{Touch}
use Rattle.local_play.specs.LocalPlay.{IsLocalMove, IsNumberTaken}
use Rattle.local_graph.specs.declared.cycle.CycleMove.{CycleMove}
use Rattle.local_graph.specs.LocalGraph.{Plays, IsReachable, IsCycle}

-- a local move from the one position to the other returns: local moves lead back
abbrev pub Returns : List Touch → List Cell → List Cell → Type 0
Returns touch from to = IsReachable touch to from

-- the move from the one position to the other takes at least one stone
abbrev pub IsCapture : List Cell → List Cell → Type 0
IsCapture from to = (n : ℕ) × (0 < n) × IsNumberTaken from to n

-- the move from the one position to the other is a capture by the colour that returns
abbrev pub IsReturningCapture : List Touch → Colour → List Cell → CycleMove → List Cell → Type 0
IsReturningCapture touch c from m to = (m.colour ≡ c) × IsCapture from to × Returns touch from to

-- one of the moves, made from the position, is a capture by the colour
abbrev pub HasCapture : List Touch → Colour → List Cell → List CycleMove → Type 0
HasCapture touch c from [] = ⊥
HasCapture touch c from (m ∷ ms) = (next : List Cell) × IsLocalMove touch from m.colour m.place next
    × (((m.colour ≡ c) × IsCapture from next) ⊎ HasCapture touch c next ms)

-- so many of the moves, made from the position, are captures by the colour that return
abbrev pub HasReturningCaptures : List Touch → Colour → List Cell → List CycleMove → ℕ → Type 0
HasReturningCaptures touch c from [] n = n ≡ 0
HasReturningCaptures touch c from (m ∷ ms) n = (next : List Cell) × IsLocalMove touch from m.colour m.place next
    × ((IsReturningCapture touch c from m next × ((k : ℕ) × (n ≡ k + 1) × HasReturningCaptures touch c next ms k))
    ⊎ (¬ IsReturningCapture touch c from m next × HasReturningCaptures touch c next ms n))

-- each cycle has a capture by Black and one by White among its moves after the number
abbrev pub CyclesTakeBothWays : List Touch → List Cell → Type 0
CyclesTakeBothWays touch opening = (ms : List CycleMove) (back : ℕ) → (cycle : IsCycle touch opening ms back) → (c : Colour)
    → HasCapture touch c cycle.returns_to (drop back ms)

-- moves from a reachable position with at most `most` returning captures by one colour are fewer than `most` and 1 times the
-- length of a list that has every reachable position
abbrev pub ShortBetweenCaptures : List Touch → List Cell → Type 0
ShortBetweenCaptures touch opening = (found : List (List Cell))
    → ((cells : List Cell) → IsReachable touch opening cells → Contains found cells)
    → (from to : List Cell) (ms : List CycleMove) → IsReachable touch opening from → Plays touch from ms to
    → (c : Colour) (most : ℕ) → ((n : ℕ) → HasReturningCaptures touch c from ms n → n ≤ most)
    → length ms < (most + 1) * length found
