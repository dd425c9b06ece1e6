use Rattle.region_book.proofs.BeginLaws.{beginning_first, beginning_more}
use Rattle.region_book.proofs.symmetry.begin.Goals as goal

pub loop-place-init : goal.loop-place-init
loop-place-init c = beginning_first _ _ _ _ c.turned-first.ensures.column c.turned-first.ensures.row

pub loop-place-preserved : goal.loop-place-preserved
loop-place-preserved c =
    let l = c.lower-column.ensures in
    let m = c.lower-row.ensures in
    beginning_more _ _ _ _ _ c.turned-at.result.column c.turned-at.result.row _ _ c.loop-place.invariant c.turned-at.ensures.column
    c.turned-at.ensures.row l.one l.first l.second m.one m.first m.second
