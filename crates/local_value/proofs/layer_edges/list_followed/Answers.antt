use Rattle.std.proofs.Common.{◌≡◌, ◌<◌, sym, length, ap, ◌∙◌, subst, [], slice_index_or, Contains, List, None, Some}
use Rattle.std.proofs.lemmas.List.Elements.{Contains-get_or}
use Rattle.local_graph.specs.declared.graph.Edge.{Edge}
use Rattle.local_graph.specs.inner.Graph.{edges_at, no_edge}
use Rattle.local_value.specs.inner.Layers.{IsFollowed}
use Rattle.local_value.proofs.LayerLaws.{followed-on}
use Rattle.local_value.proofs.layer_edges.list_followed.Goals as goal
use Rattle.local_value.proofs.layer_edges.list_followed.Goals.{in-Some+in_ok-push-in-Some, in-None}

pub followed-requires-clause-next : goal.followed-requires-clause-next
followed-requires-clause-next c =
    let same : c.edges-edges.result ≡ edges_at c.args.graph.now.edges c.args.place =
    c.edges-edges.ensures ∙ ap (λ (z : List (List Edge)). slice_index_or z c.args.place []) c.graph.ensures.edges in
    subst (λ (e : Edge). e.next < length c.args.graph.now.positions)
    (sym c.get.ensures)
    (c.requires.next _ (subst (λ es. Contains es (slice_index_or c.edges-edges.result c.listing.number no_edge)) same
    (Contains-get_or c.edges-edges.result c.listing.number no_edge (subst (λ n. c.listing.number < n) c.len-number-end.ensures c.listing-test.true))))

pub listing-preserved : goal.listing-preserved
listing-preserved c =
    let edges = edges_at c.args.graph.now.edges c.args.place in
    let same : c.edges-edges.result ≡ edges =
    c.edges-edges.ensures ∙ ap (λ (z : List (List Edge)). slice_index_or z c.args.place []) c.graph.ensures.edges in
    let it = c.get.ensures in
    elim c.match-followed.branch [
      | in-Some+in_ok-push-in-Some w ↦ followed-on edges c.listing.followed_edges _ c.listing.number (Some w.in-Some.edge) _ same c.listing.invariant
          (subst (λ n. c.listing.number < n) c.len-number-end.ensures c.listing-test.true) (subst (λ (e : Edge). IsFollowed c.args.owner c.args.graph.now.components c.args.place (length c.args.graph.now.positions) c.args.has_budget e (Some w.in-Some.edge)) it (w.in-Some.ensures {u = tt})) (w.followed_edges-is ∙ (w.in_ok-push-in-Some.ensures {u = tt}).behind)
      | in-None w ↦ followed-on edges c.listing.followed_edges _ c.listing.number None _ same c.listing.invariant
          (subst (λ n. c.listing.number < n) c.len-number-end.ensures c.listing-test.true) (subst (λ (e : Edge). IsFollowed c.args.owner c.args.graph.now.components c.args.place (length c.args.graph.now.positions) c.args.has_budget e None) it (w.in-None.ensures {u = tt})) w.followed_edges-is
    ]
