-- Why a graph has no values.
use Rattle.std.specs.Prelude.{ℕ, List}
use Rattle.go_grid.specs.declared.grid.Cell.{Cell}
use Rattle.go_grid.specs.Region.{Region}
use Rattle.local_graph.specs.Graph.{Graph}
use Rattle.short_games.specs.Tree.{Tree}
use Rattle.short_games.specs.Number.{IsNumberTree}
use Rattle.short_games.specs.Parts.{HasMoreParts}
use Rattle.game_canon.specs.Changes.{HasNumberPastBounds}
use Rattle.game_canon.specs.declared.errors.FormError.{FormError}
use Rattle.game_canon.specs.declared.errors.FormError.TheVariants.{Parts, Bounds, Memory}
use Rattle.local_trees.specs.PositionTree.{IsValueOf}
use Rattle.local_trees.specs.GraphPlaces.{IsPlaceOf}

-- V is the value of the position at the place
pub record IsValueAt (r : Region) (g : Graph) (i : ℕ) (V : Tree) : Type 0 where
  pub cells : List Cell
  pub place : IsPlaceOf r g i cells
  pub value : IsValueOf r.touch cells V

-- the value of some position is no number and has more parts than the limit, or has a number past the bounds
abbrev pub IsValueRefusal : Region → Graph → ℕ → FormError → Type 0
IsValueRefusal r g limit Parts = (i : ℕ) × (V : Tree) × IsValueAt r g i V × (IsNumberTree V → ⊥) × HasMoreParts V limit
IsValueRefusal r g limit Bounds = (i : ℕ) × (V : Tree) × IsValueAt r g i V × HasNumberPastBounds V
IsValueRefusal r g limit (Memory cause) = Unit {0}
