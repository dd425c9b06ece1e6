use Rattle.std.proofs.Common.{arith}
use Rattle.local_graph.proofs.EdgePartLemmas.{unpacked_black, unpacked_white}
use Rattle.local_graph.proofs.short_edge.packed.Goals as goal

pub returns-in-Black : goal.returns-in-Black
returns-in-Black c =
    rw (c.from-place.ensures, c.from-taken.ensures)
    (unpacked_black c.args.edge.now c.if-edge.false (omega (arith, c.from-place.ensures, c.if-place-ge-PLACE.false))
    (omega (arith, c.from-taken.ensures, c.if-taken-ge-TAKEN.false)) c.in-Black.is)

pub returns-in-White : goal.returns-in-White
returns-in-White c =
    rw (c.from-place.ensures, c.from-taken.ensures)
    (unpacked_white c.args.edge.now c.if-edge.false (omega (arith, c.from-place.ensures, c.if-place-ge-PLACE.false))
    (omega (arith, c.from-taken.ensures, c.if-taken-ge-TAKEN.false)) c.in-White.is)
