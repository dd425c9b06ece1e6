use Rattle.std.proofs.Common.{refl}
use Rattle.std.proofs.lemmas.Result.{err_from_is_err_and}
use Rattle.go_play.specs.Place.{IsTaken}
use Rattle.go_play.specs.inner.Place.{with_stone}
use Rattle.go_play.proofs.PlaceLemmas.{refused}
use Rattle.go_play.proofs.StripLemmas.{strip, without_stripped, number_taken}
use Rattle.go_play.proofs.placements.allowed.Goals as goal

pub returns-in_err-taken : goal.returns-in_err-taken
returns-in_err-taken c =
    let p = err_from_is_err_and c.from_residual.result c.from_residual.ensures.1 in
    rw (p.1, p.2) (c.args.board.now, refused c.args.board.now c.args.point c.args.colour c.in_err-taken.field-0.0 c.in_err-taken.ensures)

pub returns : goal.returns
returns c =
    let g = c.args.board.now in
    let b = with_stone g c.args.point c.args.colour in
    let j = c.in_ok-taken.ensures in
    let w = without_stripped b.cells (IsTaken g c.args.point c.args.colour) c.in_ok-taken.taken j.1 in (
      record g { cells = strip c.in_ok-taken.taken b.cells },
      (
        (record { columns = refl; rows = refl; declared = refl }, record { place = j.0.0; free = j.0.1; without = w; stands = j.2 _ w }),
        rw c.len.ensures (number_taken g c.args.point c.args.colour _ c.in_ok-taken.taken j.0 j.1 w),
      ),
    )
