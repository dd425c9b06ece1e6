use Rattle.std.proofs.Common.{◌≡◌, ◌<◌, ◌≤◌, ◌∙◌, sym, subst, refl, arith, length, All}
use Rattle.std.proofs.lemmas.List.{take_all}
use Rattle.go_grid.specs.declared.grid.Cell.TheVariants.{Empty}
use Rattle.board_orders.proofs.HandicapLemmas.{all_more}
use Rattle.board_orders.proofs.handicap.is_bare.Goals as goal

pub points-preserved : goal.points-preserved
points-preserved c =
    let lt = subst (λ n. c.points.number < n) (c.area-number-end.ensures.value ∙ c.size.ensures.area) c.points-test.true in
    all_more (λ x. x ≡ Empty) c.args.board.now.cells c.points.number Empty lt c.points.invariant (sym c.get.ensures ∙ c.if-not-is.ensures.0 refl)

pub returns : goal.returns
returns c =
    let cells = c.args.board.now.cells in let all : length cells ≤ c.points.number = omega (arith, c.points-test.false, c.area-number-end.ensures.value ∙ c.size.ensures.area) in
    ((λ e. subst (All (λ x. x ≡ Empty)) (take_all c.points.number cells all) c.points.invariant), (λ bare. refl))
