use Rattle.std.proofs.Common.{◌<◌, length, take, get_or, subst, sym, ◌+◌}
use Rattle.local_graph.specs.inner.Searching.{Trail}
use Rattle.local_graph.proofs.ReturnLemmas.{going_on, no_frame}
use Rattle.local_graph.proofs.soonest_cycles.leads_to.Goals as goal

pub going-preserved : goal.going-preserved
going-preserved c =
    subst (λ e. Trail c.args.edges.now 0 (take (c.going.frame-index + 1) c.args.path.now) e.next × (e.next < length c.args.edges.now))
    (sym c.edge-at.ensures)
    (going_on _ _ _ _ _ c.requires c.going-test.true c.going.invariant.0 c.if-frame-at.false c.at.ensures
    (subst (λ n. (get_or c.args.path.now c.going.frame-index no_frame).left < n) c.len.ensures c.if-frame-len.false))
