use Rattle.std.proofs.Common.{◌≡◌, arith, length, sym}
use Rattle.local_graph.proofs.EdgePartLemmas.{part_of_second, part_of_both}
use Rattle.local_graph.proofs.edges.EdgeList.part.Goals as goal

pub returns-then-start-short : goal.returns-then-start-short
returns-then-start-short c =
    let size : c.len-short.result ≡ length c.self.inside.short.items = omega (arith, c.len-short.ensures, c.self.inside.short.ok) in
    rw (size, c.deref-then-start-short.ensures.value, sym c.self.view_is)
    (part_of_second c.self.inside.short.items c.self.inside.long.items c.args.start c.args.end (omega (arith, size, c.if-start-short.true)))

pub returns : goal.returns
returns c =
    let size : c.len-short.result ≡ length c.self.inside.short.items = omega (arith, c.len-short.ensures, c.self.inside.short.ok) in
    rw (size, c.deref-2.ensures.value, c.deref-3.ensures.value, sym c.self.view_is)
    (part_of_both c.self.inside.short.items c.self.inside.long.items c.args.start c.args.end (omega (arith, size, c.if-start-short.false))
    (omega (arith, size, c.if-end-short.false)))
