use Rattle.std.proofs.Common.{◌<◌, arith, ap, length, sym}
use Rattle.region_book.proofs.symmetry.turned.Goals as goal

pub stand_of-at-requires : goal.stand_of-at-requires
stand_of-at-requires c =
    let lt : c.args.place < length c.shape.inside.points.items = omega (arith, c.requires, ap (λ s. length s.points) c.shape.view_is) in
    c.shape.invariant.on_board c.index.result.now (c.args.place, lt, sym c.index.ensures)
