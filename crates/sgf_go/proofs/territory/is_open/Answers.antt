use Rattle.std.proofs.Common.{arith, sym}
use Rattle.std.proofs.lemmas.Bool.{both_ways}
use Rattle.go_grid.proofs.PointsLemmas.{each_item}
use Rattle.sgf_go.specs.Territory.{IsHeldBy}
use Rattle.sgf_go.specs.inner.Territory.{marking}
use Rattle.sgf_go.proofs.territory.is_open.Goals as goal

pub returns-then-not-is_held_by-clause-open : goal.returns-then-not-is_held_by-clause-open
returns-then-not-is_held_by-clause-open c =
    let near = rw (c.size.ensures.columns, ← c.as_slice-near-items.ensures) at c.look_around.ensures.around in
    let next = (near _).0 (c.loop-near.near-index, c.loop-near-test.true, sym c.near-item.is) in
    (c.near-item.result, omega (arith, next.0, rw c.size.ensures.columns at c.size.ensures.area), next.1, λ h. both_ways _ c.if-not-is_held_by.true (c.is_held_by.ensures.1 h))

pub returns-clause-closed : goal.returns-clause-closed
returns-clause-closed c q on next =
    let near = rw (c.size.ensures.columns, ← c.as_slice-near-items.ensures) at c.look_around.ensures.around in
    each_item (IsHeldBy c.args.board.now (marking c.args.marks.now) c.args.colour) _ _ c.loop-near.invariant c.loop-near-test.false q
    ((near q).1 (omega (arith, on, rw c.size.ensures.columns at c.size.ensures.area), next))
