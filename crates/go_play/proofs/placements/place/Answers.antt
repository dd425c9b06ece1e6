use Rattle.go_play.specs.Place.{IsTaken}
use Rattle.go_play.specs.inner.Place.{with_stone}
use Rattle.go_play.proofs.StripLemmas.{without_marked, number_taken}
use Rattle.go_play.proofs.placements.place.Goals as goal

pub returns : goal.returns
returns c =
    let g = c.args.board.now in
    let b = with_stone g c.args.point c.args.colour in
    let j = c.in_ok-taken.ensures in
    let h = c.take_off.new.board in
    let w = without_marked b.cells (IsTaken g c.args.point c.args.colour) c.in_ok-taken.taken h.cells j.1
    (rw (c.set.ensures, c.stone.ensures) at c.take_off.ensures.cells) in (
      (
        record {
          columns = rw c.set.ensures at c.take_off.ensures.ground.columns;
          rows = rw c.set.ensures at c.take_off.ensures.ground.rows;
          declared = rw c.set.ensures at c.take_off.ensures.ground.declared;
        },
        record { place = j.0.0; free = j.0.1; without = w; stands = j.2 h.cells w },
      ),
      rw c.len-number.ensures (number_taken g c.args.point c.args.colour h.cells c.in_ok-taken.taken j.0 j.1 w),
    )
