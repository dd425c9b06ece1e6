-- Local play in a region of play, and play on the boards that hold its positions.
use Rattle.std.specs.Prelude.{◌≡◌, ℕ, ◌<◌, ◌↔◌, List, length, slice_index, Contains}
use Rattle.go_grid.specs.declared.grid.Cell.{Cell}
use Rattle.go_grid.specs.declared.grid.Colour.{Colour}
use Rattle.go_grid.specs.Chain.{IsSettled}
use Rattle.go_grid.specs.Board.{Board, cell_at}
use Rattle.go_grid.specs.Region.{Region}
use Rattle.go_play.specs.Place.{IsPlaced, IsNumberTaken}
use Rattle.benson_life.specs.Walls.{WallsStand}
use Rattle.region_cut.specs.Cut.{IsRegionOfPlay}
use Rattle.local_play.specs.LocalPlay.{held_at, IsLocalMove, IsNumberTaken as IsLocalNumberTaken}

-- on `h` the alive stones and counted points of `g` are as they were, and the region has the cells of a local position
pub record HoldsPosition (g : Board) (r : Region) (cells : List Cell) (h : Board) : Type 0 where
  pub walls : WallsStand g h
  pub long : length cells ≡ length r.points
  pub local : (i : ℕ) → i < length r.points → cell_at h (slice_index r.points i) ≡ held_at cells i

-- From `h` to `after` the region's cells go from `cells` to `next`, no point outside the region changes, and the number taken is
-- the local one.
pub record IsLocal (r : Region) (h after : Board) (cells next : List Cell) : Type 0 where
  pub inside : (i : ℕ) → i < length r.points → cell_at after (slice_index r.points i) ≡ held_at next i
  pub outside : (p : ℕ) → ¬ Contains r.points p → cell_at after p ≡ cell_at h p
  pub taken : (n : ℕ) → IsNumberTaken h after n ↔ IsLocalNumberTaken cells next n

-- In the region local play is play on the board: a placing in it is legal exactly where the local move is, and does what that does.
pub record PlaysLocally (g : Board) (r : Region) : Type 0 where
  pub legal : (cells : List Cell) (h : Board) (c : Colour) (i : ℕ) → HoldsPosition g r cells h → i < length r.points
      → ((after : Board) × IsPlaced h (slice_index r.points i) c after) ↔ ((next : List Cell) × IsLocalMove r.touch cells c i next)
  pub local : (cells next : List Cell) (h after : Board) (c : Colour) (i : ℕ) → HoldsPosition g r cells h → i < length r.points
      → IsPlaced h (slice_index r.points i) c after → IsLocalMove r.touch cells c i next → IsLocal r h after cells next

-- in each region of play of a settled board, local play is play on the board
abbrev pub LocalPlayIsPlay : Type 0
LocalPlayIsPlay = (g : Board) (r : Region) → IsSettled g → IsRegionOfPlay g r → PlaysLocally g r
