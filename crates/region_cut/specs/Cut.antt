-- Regions of play of a board.
use Rattle.std.specs.Prelude.{◌≡◌, ℕ, ◌<◌, ◌≤◌, ◌⊎◌, ◌↔◌, List, length, slice_index, slice_index_or, Contains}
use Rattle.std.specs.List.{AllPairs}
use Rattle.go_grid.specs.declared.grid.Cell.TheVariants.{Empty}
use Rattle.go_grid.specs.declared.grid.Colour.{Colour}
use Rattle.go_grid.specs.declared.grid.Colour.TheVariants.{Black, White}
use Rattle.go_grid.specs.Board.{Board, NextTo, cell_at}
use Rattle.go_grid.specs.Region.{Region, IsBeside, IsRegion, touch_at}
use Rattle.benson_life.specs.Life.{IsAlive}
use Rattle.benson_life.specs.Region.{IsContested, InRegionOfPlay}

-- the lowest point of a region, which names it
abbrev pub lowest : Region → ℕ
lowest r = slice_index r.points 0

-- The region has exactly the points that walks over contested points join to its lowest one, each of them once and in ascending
-- order, with what they hold, their links and the alive stones next to them.
pub record IsRegionOfPlay (g : Board) (r : Region) : Type 0 where
  pub columns : r.columns ≡ g.columns
  pub rows : r.rows ≡ g.rows
  pub proper : IsRegion r.columns r.rows r.points r.cells r.touch
  pub points : (p : ℕ) → Contains r.points p ↔ InRegionOfPlay g (lowest r) p
  pub first : (p : ℕ) → Contains r.points p → lowest r ≤ p
  pub cells : (i : ℕ) → i < length r.points → slice_index_or r.cells i Empty ≡ cell_at g (slice_index r.points i)
  pub walls : (i : ℕ) (c : Colour) → i < length r.points
      → IsBeside c (touch_at r.touch i) ↔ ((s : ℕ) × NextTo g.columns (slice_index r.points i) s × IsAlive g c s)

-- each point of the board that is next to the region and outside it is an alive stone
abbrev pub IsWalledIn : Board → Region → Type 0
IsWalledIn g r = (p q : ℕ) → Contains r.points p → NextTo g.columns p q → q < length g.cells → ¬ Contains r.points q
    → IsAlive g Black q ⊎ IsAlive g White q

-- exactly the regions of play, by lowest point
pub record AreRegionsOfPlay (g : Board) (regions : List Region) : Type 0 where
  pub each : (r : Region) → Contains regions r → IsRegionOfPlay g r
  pub every : (p : ℕ) → IsContested g p → (r : Region) × Contains regions r × Contains r.points p
  pub ascending : AllPairs (λ r s. lowest r < lowest s) regions
