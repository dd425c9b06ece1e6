use Rattle.std.proofs.Common.{◌∙◌, ◌++◌, ◌∷◌, [], arith, ap, length}
use Rattle.std.proofs.lemmas.List.{length_push}
use Rattle.local_graph.specs.declared.search.Visit.TheVariants.{New}
use Rattle.local_graph.specs.inner.Graph.{no_edges}
use Rattle.local_graph.proofs.FoundLemmas.{awaited_span, within_empty}
use Rattle.local_graph.proofs.graph_build.await_new.Goals as goal

pub awaiting-preserved : goal.awaiting-preserved
awaiting-preserved c =
    let so_far = c.awaiting.invariant in
    let spans = c.awaiting.spans.items in
    let first = c.push_reserved.ensures.items ∙ ap (λ l. l ++ New ∷ []) c.reserve.ensures.items in
    let more = c.push_reserved-in-awaiting.ensures.items ∙ ap (λ l. l ++ no_edges ∷ []) c.reserve-in-awaiting.ensures.items in
    record {
      awaited = λ edges. awaited_span edges _ spans _ _ _ _ (so_far.awaited edges) first more;
      within = λ edges first. within_empty edges spans _ (so_far.within edges first) more;
      most = omega (arith, c.len.ensures, c.awaiting.spans.ok, c.awaiting-test.true, ap length more, length_push spans no_edges);
    }
