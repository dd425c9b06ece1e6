-- Shapes keep the trees with a budget, and the values of openings.
use Rattle.std.proofs.Common.{◌≡◌, ℕ, ◌+◌, inl, inr, sym, subst, arith, List, Bool}
use Rattle.std.proofs.lemmas.Bool.{cases_eq, cases_lt}
use Rattle.go_grid.specs.declared.grid.Cell.{Cell}
use Rattle.go_grid.specs.declared.grid.Colour.{Colour}
use Rattle.go_grid.specs.declared.region.Touch.{Touch}
use Rattle.short_games.proofs.OrderLaws.{same-sym, same-trans}
use Rattle.local_trees.specs.BudgetTree.{IsBudgetTree}
use Rattle.local_trees.specs.Steady.{IsLeastSteady}
use Rattle.local_trees.proofs.BudgetTreeLaws.{budget_depths, budget_tree, enough}
use Rattle.region_book.specs.Shape.{IsPartner, colour_after}
use Rattle.region_book.proofs.SymmetryLaws.{colour_back}
use Rattle.endgame_solver.specs.ShapeValues.{game_after}
use Rattle.endgame_solver.proofs.CarriedLaws.{Matched}
use Rattle.cycle_solver.specs.ShapeBudgets.{IsCarried, ShapesKeepBudgetTrees, ShapesKeepSteadyValues}
use Rattle.cycle_solver.proofs.OwnValueLaws.{after-same, least_over, trees_over}

matched : {touch touch' : List Touch} {cells cells' : List Cell} {colours : Bool} (h : IsCarried touch cells touch' cells' colours)
    → Matched touch touch' (IsPartner h.partners) colours cells cells'
matched h = record { linked = h.linked; linked' = h.linked'; turn = h.symmetry; carries = h.carries }

pub shapes-keep_budget_trees : ShapesKeepBudgetTrees
shapes-keep_budget_trees touch cells touch' cells' colours h owner budget G H g k =
    let other = colour_after colours owner in let both = enough cells budget + enough cells' budget in
    let (G', g') = budget_tree touch owner both budget cells in let (H', k') = budget_tree touch' other both budget cells' in
    same-trans G G' (game_after colours H) (budget_depths touch owner cells budget (enough cells budget) both G G' (omega arith) (omega arith) g g')
    (same-trans G' (game_after colours H') (game_after colours H) (trees_over touch touch' owner both budget (matched h) G' H' g' k')
    (after-same colours H' H (budget_depths touch' other cells' budget both (enough cells' budget) H' H (omega arith) (omega arith) k' k)))

-- a region is steady with one least budget
one_least : (touch : List Touch) (cells : List Cell) (owner : Colour) (j k : ℕ) → IsLeastSteady touch cells owner j → IsLeastSteady touch cells owner k → j ≡ k
one_least touch cells owner j k a b = elim (cases_lt j k) [
  | inl lt ↦ absurd (b.least j lt a.steady)
  | inr ge ↦ elim (cases_eq j k) [
    | inl all ↦ all
    | inr more ↦ absurd (a.least k (omega (arith, ge, more)) b.steady)
  ]
]

pub shapes-keep_steady_values : ShapesKeepSteadyValues
shapes-keep_steady_values touch cells touch' cells' colours h long owner V W (j, least, v) (k, least', w) =
    let other = colour_after colours owner in
    let over = least_over touch touch' cells cells' (matched h) long other j (subst (λ c. IsLeastSteady touch cells c j) (sym (colour_back colours owner)) least) in
    let same = one_least touch' cells' other k j least' over in
    same-trans V v.tree (game_after colours W) (same-sym v.tree V v.same)
    (same-trans v.tree (game_after colours w.tree) (game_after colours W)
    (shapes-keep_budget_trees touch cells touch' cells' colours h owner j v.tree w.tree v.of_position (subst (λ n. IsBudgetTree touch' other n cells' w.tree) same w.of_position))
    (after-same colours w.tree W w.same))
