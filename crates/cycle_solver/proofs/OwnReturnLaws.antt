-- The turned graph tells which moves return, as the graph of the first region does.
use Rattle.std.proofs.Common.{◌≡◌, ℕ, ◌≤◌, ◌↔◌, refl, sym, ap, ◌∙◌, subst, arith, List, length, get_or, Contains, Option, Some, None, Bool}
use Rattle.std.proofs.lemmas.List.{length-map}
use Rattle.go_grid.specs.declared.grid.Cell.{Cell}
use Rattle.go_grid.specs.declared.grid.Colour.{Colour}
use Rattle.go_grid.specs.declared.grid.Colour.TheVariants.{Black, White}
use Rattle.go_grid.specs.Region.{Region}
use Rattle.local_graph.specs.declared.graph.Edge.{Edge}
use Rattle.local_graph.specs.inner.Graph.{edges_at}
use Rattle.local_graph.specs.LocalGraph.{IsReachable}
use Rattle.local_graph.specs.ReturnGraph.{IsOrderBetweenCaptures, IsReturningCaptureAt, ReturnGraph, StaysIn, TellReturns, order_for}
use Rattle.local_value.specs.BudgetValues.{IsReturnGraphOf, plain_graph}
use Rattle.local_trees.proofs.MoveLaws.{graph_move}
use Rattle.region_book.specs.Shape.{colour_after}
use Rattle.region_book.proofs.SymmetryLaws.{colour_back}
use Rattle.endgame_solver.proofs.CarriedLaws.{Matched, cycle_matched, matched_back, matched_one, reach_matched}
use Rattle.cycle_solver.specs.declared.views.View.{View}
use Rattle.cycle_solver.specs.Turned.{own, own_edges, own_graph, own_number}
use Rattle.cycle_solver.proofs.OwnGraphLaws.{edges_turned, graph_turned, own_from, position_of}

-- whether a move stays in its component isn't asked of its stone
stays_over : (v : View) (components : Option (List ℕ)) (i : ℕ) (f : Edge) → StaysIn components i (own v f) ↔ StaysIn components i f
stays_over v None i f = (λ s. s, λ s. s)
stays_over v (Some components) i f = (λ s. s, λ s. s)

order_over : (v : View) (h : ReturnGraph) (c : Colour) → order_for (own_graph v h) c ≡ order_for h (colour_after v.colours c)
order_over v h Black = refl
order_over v h White = refl

-- local moves that lead back are carried onto ones that lead back
return_over : (q r : Region) {Paired : ℕ → ℕ → Type 0} {colours : Bool} {a b a' b' : List Cell} → Matched q.touch r.touch Paired colours a b
    → Matched q.touch r.touch Paired colours a' b' → IsReachable q.touch a' a → IsReachable r.touch b' b
return_over q r {b' = b'} m m' reach =
    let (end, reached, last) = reach_matched m' _ reach in
    subst (IsReachable r.touch b') (matched_one last m) reached

module _ (q r : Region) (h : ReturnGraph) {Paired : ℕ → ℕ → Type 0} (v : View)
    (opening : Matched q.touch r.touch Paired v.colours q.cells r.cells) (of : IsReturnGraphOf q h) (few : length r.cells ≤ 32)
    (wide : length v.places ≡ 32) (partner : (j i : ℕ) → Paired j i → get_or v.places j 0 ≡ i) where
  abbrev turned : ReturnGraph
  turned = own_graph v h

  -- an edge of the turned graph is one of the graph
  edge_from : (i : ℕ) (e : Edge) → Contains (edges_at turned.edges i) e → (f : Edge) × Contains (edges_at h.edges i) f × (e ≡ own v f)
  edge_from i e among = own_from v e (edges_at h.edges i)
      (subst (λ es. Contains es e) (edges_turned q r h v opening of.graph of.few few wide partner i) among)

  many : length turned.positions ≡ length h.positions
  many = length-map h.positions (own_number v)

  returns : TellReturns r.touch r.cells turned.positions turned.edges h.components
  returns i e from to lt among reach reach' is is' =
      let (f, there, same) = edge_from i e among in
      let (a, has, m) = position_of q r h v opening of.graph of.few few wide partner i from (record { inside = lt; reachable = reach; packed = is }) in
      let (next, move, edge) = graph_move q (plain_graph h) of.graph i a f has there in
      let next_is = ap (λ x. x.next) same in
      let (a', has', m') = position_of q r h v opening of.graph of.few few wide partner e.next to
      (record { inside = omega (arith, next_is, edge.inside, many); reachable = reach'; packed = is' }) in
      let tells = of.returns i f a a' has.inside there has.reachable has'.reachable has.packed (ap (λ n. get_or h.positions n 0) (sym next_is) ∙ has'.packed) in
      let over = stays_over v h.components i f in (
        λ stays. return_over q r m m' (tells.0 (over.0 (subst (StaysIn h.components i) same stays))),
        λ back. subst (StaysIn h.components i) (sym same) (over.1 (tells.1 (return_over r q (matched_back m) (matched_back m') back))),
      )

  order : (c : Colour) → IsOrderBetweenCaptures c turned.edges h.components (order_for turned c)
  order c =
      let o = of.orders (colour_after v.colours c) in
      let long = length-map h.edges (own_edges v) in
      subst (IsOrderBetweenCaptures c turned.edges h.components) (sym (order_over v h c)) record {
        once = o.once;
        inside = λ k lt. omega (arith, o.inside k lt, long);
        every = λ i lt. o.every i (omega (arith, lt, long));
        ends_first = λ k e lt among free.
            let i = get_or (order_for h (colour_after v.colours c)) k 0 in
            let (f, there, same) = edge_from i e among in
            let (j, less, is) = o.ends_first k f lt there (λ (colour, some, stays).
            free (subst (IsReturningCaptureAt c h.components i) (sym same) (
              ap (colour_after v.colours) colour ∙ colour_back v.colours c,
              some,
              (stays_over v h.components i f).1 stays,
            ))) in
            (j, less, is ∙ ap (λ x. x.next) (sym same));
      }

  pub return_graph_turned : IsReturnGraphOf r turned
  return_graph_turned = record {
    few = few;
    graph = graph_turned q r h v opening of.graph of.few few wide partner;
    calm = (λ none. cycle_matched (matched_back opening) (of.calm.0 none), λ calm. of.calm.1 (cycle_matched opening calm));
    returns = returns;
    orders = order;
  }
