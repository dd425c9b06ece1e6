-- Values in the places of positions.
use Rattle.std.specs.Prelude.{ℕ, suc, List, [], ◌∷◌}
use Rattle.go_grid.specs.declared.grid.Cell.{Cell}
use Rattle.go_grid.specs.Region.{Region}
use Rattle.local_graph.specs.Graph.{Graph}
use Rattle.short_games.specs.Tree.{Tree, tree_at}
use Rattle.local_trees.specs.PositionTree.{IsValueOf}
use Rattle.endgame_solver.specs.Regions.{region_at}
use Rattle.endgame_solver.specs.inner.Regions.{Spot, HasCells}

-- the ids are those of the values of the positions, in regions from `k` on
abbrev pub AreValued : List Region → List Graph → List Tree → ℕ → List Spot → List ℕ → Type 0
AreValued regions graphs Ts k [] [] = Unit {0}
AreValued regions graphs Ts k (q ∷ qs) (id ∷ ids) =
    ((cells : List Cell) × HasCells regions graphs k q cells × IsValueOf (region_at regions k).touch cells (tree_at Ts id))
    × AreValued regions graphs Ts (suc k) qs ids
AreValued regions graphs Ts k _ _ = ⊥
