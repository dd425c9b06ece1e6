use Rattle.std.proofs.Common.{ap, refl, subst, sym, Some}
use Rattle.go_grid.specs.declared.grid.Colour.TheVariants.{Black}
use Rattle.local_graph.specs.LocalGraph.{IsOrderOfPlaces}
use Rattle.local_graph.specs.ReturnGraph.{IsOrderBetweenCaptures}
use Rattle.local_graph.proofs.return_graph.tell_returns.Goals as goal

pub returns-in-Some : goal.returns-in-Some
returns-in-Some c =
    let new = c.new.ensures in
    record {
      positions_are = ap (λ g. g.positions) new;
      edges_are = ap (λ g. g.edges) new;
      told = (subst (IsOrderOfPlaces c.args.edges) (sym (ap (λ g. g.order) new)) (rw c.in-Some.is at c.in_ok-order.ensures), refl);
    }

pub returns : goal.returns
returns c =
    let new = c.new-2.ensures in
    let told = rw c.deref.ensures.value at c.in_ok-told.ensures in
    record {
      positions_are = ap (λ g. g.positions) new;
      edges_are = ap (λ g. g.edges) new;
      told = (
        rw c.in_default.is at c.in_ok-order.ensures,
        told.components,
        λ f. subst (IsOrderBetweenCaptures Black c.args.edges (Some _)) (sym (ap (λ g. g.order) new)) (told.black_order f),
        told.white_order,
      );
    }
