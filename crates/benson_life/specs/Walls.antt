-- Alive stones and counted points on other boards.
use Rattle.std.specs.Prelude.{ℕ, ◌≡◌, length}
use Rattle.go_grid.specs.declared.grid.Colour.{Colour}
use Rattle.go_grid.specs.Board.{Board, HasStone, cell_at}
use Rattle.go_grid.specs.Chain.{IsLiberty}
use Rattle.benson_life.specs.Life.{IsAlive, IsCounted}

-- on `h`, a board of the size of `g`, the alive stones of `g` stand, and each counted point of `g` holds what it held
pub record WallsStand (g h : Board) : Type 0 where
  pub columns : h.columns ≡ g.columns
  pub long : length h.cells ≡ length g.cells
  pub stones : (c : Colour) (s : ℕ) → IsAlive g c s → HasStone h c s
  pub counted : (c : Colour) (p : ℕ) → IsCounted g c p → cell_at h p ≡ cell_at g p

-- on `h` the chain of each stone that is alive on `g` has a liberty among the points counted on `g` for its colour
abbrev pub WallsBreathe : Board → Board → Type 0
WallsBreathe g h = (c : Colour) (s : ℕ) → IsAlive g c s → (p : ℕ) × IsCounted g c p × IsLiberty h c s p
