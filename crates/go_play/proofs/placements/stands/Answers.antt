use Rattle.go_play.proofs.PlaceLemmas.{free_inside, stands_by}
use Rattle.go_play.proofs.placements.stands.Goals as goal

pub returns : goal.returns
returns c cells cleared =
    let t = c.args.tried.now in
    let by = stands_by c.args.board.now c.args.point c.args.colour cells cleared t.own t.empty c.args.taken.now
    c.union.result c.requires.tried.own c.requires.tried.empty c.requires.taken c.union.ensures in
    let is = rw c.size.ensures.columns at c.part_touches.ensures in
    (λ r. by.0 (is.0 r), λ l. is.1 (by.1 l))

pub part_touches-requires-clause-inside : goal.part_touches-requires-clause-inside
part_touches-requires-clause-inside c =
    free_inside c.args.board.now c.args.point c.args.colour _ c.args.tried.now.empty c.args.taken.now c.union.result c.size.ensures.area
    c.requires.tried.empty c.requires.taken c.union.ensures
