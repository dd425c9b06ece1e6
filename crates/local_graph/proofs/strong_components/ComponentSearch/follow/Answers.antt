use Rattle.std.proofs.Common.{◌∙◌, arith}
use Rattle.local_graph.proofs.TellingSteps.{said_inside, said_left, said_next, said_told, said_joined, said_entered}
use Rattle.local_graph.proofs.strong_components.ComponentSearch.follow.Goals as goal

pub index-requires : goal.index-requires
index-requires c =
    let s = c.args.self.now in
    let inside = said_inside c.args.edges.now s.path.items c.args.last s.waiting.items s.starts.items s.marks.items s.told c.requires.ends c.requires.under_way in
    omega (arith, inside, s.waiting.ok)

pub edge-next-requires : goal.edge-next-requires
edge-next-requires c =
    let s = c.args.self.now in
    said_left c.args.edges.now s.path.items c.args.last s.waiting.items s.starts.items s.marks.items s.told c.requires.ends c.requires.under_way
    c.index.result.now c.requires.more c.index.ensures

pub index-requires-2 : goal.index-requires-2
index-requires-2 c =
    let s = c.args.self.now in
    let inside = said_next c.args.edges.now s.path.items c.args.last s.waiting.items s.starts.items s.marks.items s.told c.requires.ends c.requires.under_way
    c.index.result.now c.requires.more c.index.ensures c.requires.rooted c.len-place.result c.edge-next.result c.edge-next.ensures in
    omega (arith, inside, s.marks.ok, c.requires.under_way.long)

pub enter-requires-clause-inside : goal.enter-requires-clause-inside
enter-requires-clause-inside c =
    let s = c.args.self.now in
    said_next c.args.edges.now s.path.items c.args.last s.waiting.items s.starts.items s.marks.items s.told c.requires.ends c.requires.under_way
    c.index.result.now c.requires.more c.index.ensures c.requires.rooted c.len-place.result c.edge-next.result c.edge-next.ensures

pub returns-in-Told : goal.returns-in-Told
returns-in-Told c =
    let s = c.args.self.now in
    said_told c.args.edges.now s.path.items c.args.last s.waiting.items s.starts.items s.marks.items s.told c.requires.ends c.requires.under_way
    c.index.result.now c.requires.more c.index.ensures c.requires.rooted c.len-place.result c.edge-next.result c.edge-next.ensures
    (c.len-place.ensures ∙ s.path.ok.0) c.index-2.result.now c.index-2.ensures c.in-Told._number c.in-Told.is

pub returns-in-Waiting : goal.returns-in-Waiting
returns-in-Waiting c =
    let s = c.args.self.now in
    said_joined c.args.edges.now s.path.items c.args.last s.waiting.items s.starts.items s.marks.items s.told c.requires.ends c.requires.under_way
    c.index.result.now c.requires.more c.index.ensures c.requires.rooted c.len-place.result c.edge-next.result c.edge-next.ensures
    (c.len-place.ensures ∙ s.path.ok.0) c.index-2.result.now c.index-2.ensures c.in-Waiting.at c.join.new.starts.items c.in-Waiting.is c.join.ensures

pub returns-in_ok-enter-in-New : goal.returns-in_ok-enter-in-New
returns-in_ok-enter-in-New c =
    let s = c.args.self.now in
    let e = c.in_ok-enter-in-New.ensures in
    said_entered c.args.edges.now s.path.items c.args.last s.waiting.items s.starts.items s.marks.items s.told c.requires.ends c.requires.under_way
    c.index.result.now c.requires.more c.index.ensures c.requires.rooted c.len-place.result c.edge-next.result c.edge-next.ensures
    (c.len-place.ensures ∙ s.path.ok.0) c.index-2.result.now c.index-2.ensures _ _ _ _ _ c.in-New.is e.path e.waiting e.starts e.marks e.told e.fits
