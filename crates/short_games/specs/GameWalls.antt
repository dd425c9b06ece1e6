-- Walls of games in any form, over the grids of `WallGrids`.
use Rattle.std.specs.Prelude.{ℕ, ℤ}
use Rattle.short_games.specs.Tree.{Tree}
use Rattle.short_games.specs.TextOrder.{IsCanonicalFor}
use Rattle.short_games.specs.WallGrids.{HasWalls}

-- l and r are the walls of the game, which are those of its canonical tree
pub record AreWallsOf (k : ℕ) (G : Tree) (l r : ℕ → ℤ) : Type 0 where
  pub canonical : Tree
  pub is_canonical : IsCanonicalFor G canonical
  pub walls : HasWalls k canonical l r
