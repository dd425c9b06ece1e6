use Rattle.std.proofs.Common.{◌∙◌, arith}
use Rattle.local_graph.proofs.SearchLemmas.{goes_next, said_back, said_enter, said_skip}
use Rattle.local_graph.proofs.search.Search.follow.Goals as goal

pub index-requires : goal.index-requires
index-requires c =
    let s = c.args.self.now in
    let inside = goes_next c.args.edges.now s.path.items c.args.last s.visits.items s.order.items c.requires.ends
    c.requires.under_way c.next_frame.result.0 c.next_frame.ensures.frame c.requires.rooted in
    rw c.next_frame.ensures.edge (omega (arith, inside, s.visits.ok))

pub enter-requires-clause-inside : goal.enter-requires-clause-inside
enter-requires-clause-inside c =
    let s = c.args.self.now in
    let inside = goes_next c.args.edges.now s.path.items c.args.last s.visits.items s.order.items c.requires.ends
    c.requires.under_way c.next_frame.result.0 c.next_frame.ensures.frame c.requires.rooted in
    rw c.next_frame.ensures.edge (omega (arith, inside, c.requires.under_way.long))

pub returns-in-Placed : goal.returns-in-Placed
returns-in-Placed c =
    let s = c.args.self.now in
    said_skip c.args.edges.now s.path.items c.args.last s.visits.items s.order.items c.requires.ends
    c.requires.under_way c.next_frame.result.0 c.next_frame.ensures.frame c.len-at.result c.next_frame.result.1 c.index.result.now c.requires.rooted
    (c.len-at.ensures ∙ s.path.ok.0) c.next_frame.ensures.edge c.index.ensures c.in-Placed.is

pub returns-in-OnPath : goal.returns-in-OnPath
returns-in-OnPath c =
    let s = c.args.self.now in
    said_back c.args.edges.now s.path.items c.args.last s.visits.items s.order.items c.requires.ends
    c.requires.under_way c.next_frame.result.0 c.next_frame.ensures.frame c.len-at.result c.next_frame.result.1 c.index.result.now c.requires.rooted
    (c.len-at.ensures ∙ s.path.ok.0) c.next_frame.ensures.edge c.index.ensures c.in-OnPath.is

pub returns-in_ok-enter-in-New : goal.returns-in_ok-enter-in-New
returns-in_ok-enter-in-New c =
    let s = c.args.self.now in
    said_enter c.args.edges.now s.path.items c.args.last s.visits.items s.order.items c.requires.ends
    c.requires.under_way c.next_frame.result.0 c.next_frame.ensures.frame c.len-at.result c.next_frame.result.1 c.index.result.now c.requires.rooted
    (c.len-at.ensures ∙ s.path.ok.0) c.next_frame.ensures.edge c.index.ensures _ _ _ c.in-New.is c.in_ok-enter-in-New.ensures.path
    c.in_ok-enter-in-New.ensures.visits c.in_ok-enter-in-New.ensures.order c.in_ok-enter-in-New.ensures.fits
