use Rattle.std.proofs.Common.{ap, subst, sym}
use Rattle.std.proofs.lemmas.Result.{err_from_is_err_and}
use Rattle.local_graph.specs.LocalGraph.{IsOrderOfPlaces}
use Rattle.local_graph.proofs.graph_build.order_graph.Goals as goal

pub returns-in_err-order : goal.returns-in_err-order
returns-in_err-order c = let p = err_from_is_err_and c.from_residual.result c.from_residual.ensures.1 in rw (p.1, p.2) tt

pub returns-in-Some : goal.returns-in-Some
returns-in-Some c =
    let new = c.new.ensures in (
      ap (λ g. g.positions) new,
      ap (λ g. g.edges) new,
      subst (IsOrderOfPlaces c.args.edges) (sym (ap (λ g. g.order) new)) (rw c.in-Some.is at c.requires.ordered),
    )

pub returns-in-Order : goal.returns-in-Order
returns-in-Order c =
    let new = c.new-in-Order.ensures in (
      ap (λ g. g.positions) new,
      ap (λ g. g.edges) new,
      subst (IsOrderOfPlaces c.args.edges) (sym (ap (λ g. g.order) new)) (rw c.in-Order.is at c.in_ok-order.ensures),
    )

pub returns-in-Cycle : goal.returns-in-Cycle
returns-in-Cycle c = rw c.in-Cycle.is at c.in_ok-order.ensures
