use Rattle.local_graph.proofs.TellingSteps.{said_begin}
use Rattle.local_graph.proofs.strong_components.ComponentSearch.begin.Goals as goal

pub returns : goal.returns
returns c =
    let e = c.in_ok-enter.ensures in
    said_begin c.args.edges.now c.in_ok-vec.field-0.items _ _ _ _ _ _ _ _ _ c.requires (c.in_ok-vec.ensures.items_if_clones_equal (λ y e. e)) c.len.ensures c.new.ensures.items c.new-2.ensures.items
    c.new-3.ensures.items e.marks e.waiting e.starts e.path e.told
