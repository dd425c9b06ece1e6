-- The regions of play as the parts of a game: a position of a part is a place of its region's graph.
use Rattle.std.specs.Prelude.{ℕ, ◌≡◌, ◌<◌, List, [], length, slice_index, slice_index_or}
use Rattle.go_grid.specs.declared.grid.Colour.{Colour}
use Rattle.go_grid.specs.Region.{Region}
use Rattle.local_graph.specs.declared.graph.Edge.{Edge}

-- a region without points, which stands for one past the last
abbrev pub no_region : Region
no_region = record { columns = 0; rows = 0; points = []; cells = []; touch = [] }

-- the region at a place of a list
abbrev pub region_at : List Region → ℕ → Region
region_at regions k = slice_index_or regions k no_region

-- the edge is the player's, and its place is that of the point
pub record IsStoneAt (r : Region) (c : Colour) (p : ℕ) (e : Edge) : Type 0 where
  pub inside : e.place < length r.points
  pub point : slice_index r.points e.place ≡ p
  pub colour : e.colour ≡ c
