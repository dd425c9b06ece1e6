-- Groups of alive stones.
use Rattle.std.specs.Prelude.{ℕ, ◌≤◌, ◌⊎◌}
use Rattle.go_grid.specs.declared.grid.Colour.{Colour}
use Rattle.go_grid.specs.Board.{Board, NextTo}
use Rattle.go_grid.specs.Path.{HasPath}
use Rattle.go_grid.specs.Chain.{InChain}
use Rattle.benson_life.specs.Life.{InRegion, IsAlive, IsCounted}
use Rattle.benson_life.specs.Held.{HasPoints}

-- `s` is next to a point that is counted for the colour, and `t` to a point of that point's region
abbrev pub ShareCounted : Board → Colour → ℕ → ℕ → Type 0
ShareCounted g c s t = (p q : ℕ) × IsCounted g c p × InRegion g c p q × NextTo g.columns p s × NextTo g.columns q t

-- two alive stones are linked when they are of one chain, or share a counted region
abbrev pub IsLinkedInGroup : Board → Colour → ℕ → ℕ → Type 0
IsLinkedInGroup g c s t = InChain g c s t ⊎ ShareCounted g c s t

-- `s` and `t` are of one group: links lead from the one to the other, over alive stones of the colour
abbrev pub InGroup : Board → Colour → ℕ → ℕ → Type 0
InGroup g c s t = HasPath (IsLinkedInGroup g c) (IsAlive g c) s t

-- the lowest stone of its group, of which each group has one
abbrev pub IsLeader : Board → Colour → ℕ → Type 0
IsLeader g c s = IsAlive g c s × ((t : ℕ) → InGroup g c s t → s ≤ t)

-- the colour has `n` groups
abbrev pub IsNumberOfGroups : Board → Colour → ℕ → Type 0
IsNumberOfGroups g c n = HasPoints (IsLeader g c) n
