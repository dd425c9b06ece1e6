use Rattle.std.proofs.Common.{Some, ◌≡◌, ◌∙◌, List, map, ap, sym, subst}
use Rattle.std.proofs.lemmas.Result.{IfOk-weaker}
use Rattle.local_graph.specs.declared.graph.Edge.{Edge}
use Rattle.local_graph.specs.ReturnGraph.{IsOrderBetweenCaptures}
use Rattle.local_graph.specs.inner.Ranks.{AllFallOrRise}
use Rattle.local_graph.proofs.RankLemmas.{sorted_order}
use Rattle.local_graph.proofs.return_orders.order_between_captures.Goals as goal

pub returns : goal.returns
returns c =
    let k = c.args in
    IfOk-weaker c.places_of.result (λ places. places.items ≡ map (λ r. r.place) c.deref.result.now)
    (λ order. (edges : List (List Edge)) → AllFallOrRise k.colour k.positions.now k.components.now edges
    → IsOrderBetweenCaptures k.colour edges (Some k.components.now) order.items)
    (λ order e edges f. subst (IsOrderBetweenCaptures k.colour edges (Some k.components.now))
    (sym (e ∙ ap (map (λ r. r.place)) c.deref.ensures.value))
    (sorted_order k.colour k.positions.now k.components.now c.in_ok-ranks.ranks.items c.sort_unstable.new.self.items c.in_ok-ranks.ensures
    c.sort_unstable.ensures.permutation c.sort_unstable.ensures.sorted edges f))
    c.places_of.ensures
