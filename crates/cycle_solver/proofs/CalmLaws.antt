-- Without a cycle one colour's layers serve both.
use Rattle.std.proofs.Common.{ℕ, ◌+◌, ◌^◌, ◌≡◌, arith, subst, List, length, Option, None, Some}
use Rattle.go_grid.specs.declared.grid.Cell.{Cell}
use Rattle.go_grid.specs.declared.grid.Colour.{Colour}
use Rattle.go_grid.specs.declared.region.Touch.{Touch}
use Rattle.go_grid.specs.Region.{Region}
use Rattle.local_graph.specs.FiniteLocalPlay.{HasNoCycle}
use Rattle.local_graph.specs.LocalGraph.{IsReachable}
use Rattle.local_graph.specs.ReturnGraph.{ReturnGraph}
use Rattle.short_games.specs.Tree.{Tree}
use Rattle.short_games.proofs.OrderLaws.{same-sym, same-trans}
use Rattle.local_value.specs.BudgetValues.{AreWithinLimits, IsBudgetValueAt, IsReturnGraphOf}
use Rattle.local_trees.specs.Steady.{IsBudgetValue, IsSteady}
use Rattle.local_trees.proofs.BudgetTreeLaws.{budget_tree, budgets-need_cycles, enough}
use Rattle.local_trees.proofs.TreeLaws.{trees-exist}
use Rattle.endgame_solver.specs.Limits.{Limits}
use Rattle.cycle_solver.specs.Games.{MayBeSteady}

-- the value of a colour is one of the other
module _ {touch : List Touch} {opening : List Cell} (calm : HasNoCycle touch opening) where
  one_value : {c : Colour} (d : Colour) {j : ℕ} {cells : List Cell} {V : Tree} → IsReachable touch opening cells → IsBudgetValue touch c j cells V
      → IsBudgetValue touch d j cells V
  one_value {c} d {j} {cells} {V} reach v =
      let (H, tree) = budget_tree touch d (enough cells j) j cells in
      let (T, plain) = trees-exist touch cells (3 ^ length cells) in
      let there = budgets-need_cycles touch opening c j calm cells reach v.tree T v.of_position plain in
      let back = budgets-need_cycles touch opening d j calm cells reach H T tree plain in
      record { tree = H; of_position = tree; canonical = v.canonical; same = same-trans H T V back (same-trans T v.tree V (same-sym v.tree T there) v.same) }

  -- and each budget is as good as the next
  always_steady : (c : Colour) (j : ℕ) → IsSteady touch opening c j
  always_steady c j cells reach G H a b =
      let (T, plain) = trees-exist touch cells (3 ^ length cells) in
      let first = budgets-need_cycles touch opening c j calm cells reach G T a plain in
      let second = budgets-need_cycles touch opening c (j + 1) calm cells reach H T b plain in
      same-trans G T H first (same-sym H T second)

module _ (limits : Limits) (most : ℕ) {r : Region} {g : ReturnGraph} (of : IsReturnGraphOf r g) (none : g.components ≡ None) where
  calm : HasNoCycle r.touch r.cells
  calm = of.calm.0 none

  same_limits : {c : Colour} (d : Colour) (j : ℕ) → AreWithinLimits r g c limits.parts j → AreWithinLimits r g d limits.parts j
  same_limits {c} d j within = record { parts = λ i V at. within.parts i V (other_at at); bounds = λ i V at. within.bounds i V (other_at at) }
    where
      other_at : {i : ℕ} {V : Tree} → IsBudgetValueAt r g d j i V → IsBudgetValueAt r g c j i V
      other_at at = record { cells = at.cells; place = at.place; value = one_value calm c at.place.reachable at.value }

  -- so the layers of a colour are those of the other
  pub one_steady : {c : Colour} (d : Colour) {Ts : List Tree} {layers : List (List ℕ)} → MayBeSteady limits most r g c Ts (Some layers) → MayBeSteady limits most r g d Ts (Some layers)
  one_steady {c} d (budget, few, are) = (
    budget,
    few,
    record {
      many = are.many;
      least = record { steady = always_steady calm d budget; least = λ j lt. absurd (are.least.least j lt (always_steady calm c j)) };
      values = λ j le.
          let v = are.values j le in
          record { long = v.long; known = v.known; each = λ i cells at. one_value calm d at.reachable (v.each i cells at) };
      sizes = are.sizes;
      limits = λ j le. same_limits d j (are.limits j le);
    },
  )

  -- and there are some
  pub never_unsteady : (c : Colour) (Ts : List Tree) {x : Option (List (List ℕ))} → x ≡ None → MayBeSteady limits most r g c Ts x → ⊥
  never_unsteady c Ts is m = (subst (MayBeSteady limits most r g c Ts) is m).0 0 (omega arith) (always_steady calm c 0)
