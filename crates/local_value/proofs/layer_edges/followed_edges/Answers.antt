use Rattle.std.proofs.Common.{◌≡◌, ◌∙◌, ap, sym, subst, [], slice_index_or, List, length}
use Rattle.local_graph.specs.declared.graph.Edge.{Edge}
use Rattle.local_value.specs.inner.Layers.{AreFollowed}
use Rattle.local_value.proofs.LayerLaws.{all-followed}
use Rattle.local_value.proofs.layer_edges.followed_edges.Goals as goal

pub returns-then-is_unmarked : goal.returns-then-is_unmarked
returns-then-is_unmarked c =
    let same : c.edges.result ≡ slice_index_or c.args.graph.now.edges c.args.place [] =
    c.edges.ensures ∙ ap (λ (z : List (List Edge)). slice_index_or z c.args.place []) c.graph.ensures.edges in
    subst (AreFollowed c.args.owner c.args.graph.now.components c.args.place (length c.args.graph.now.positions) c.args.has_budget
    (slice_index_or c.args.graph.now.edges c.args.place [])) (sym same)
    (all-followed (slice_index_or c.args.graph.now.edges c.args.place []) (c.requires.returning c.args.place (c.is_unmarked.ensures c.if-is_unmarked.true)))
