use Rattle.std.proofs.Common.{arith, ◌≤◌, ◌<◌, ◌+◌, ◌-◌, ◌*◌, ◌%◌}
use Rattle.std.specs.Option.{SomeIff}
use Rattle.go_grid.proofs.NearLemmas.{near_is}
use Rattle.go_grid.proofs.near_points.neighbours.Goals as goal
use Rattle.go_grid.proofs.near_points.neighbours.Goals.{then-columns-number, else-columns-number, then-column-gt0, else-column-gt0, then-column-columns, else-column-columns, then-number-columns, else-number-columns}

pub returns-clause-near : goal.returns-clause-near
returns-clause-near c =
    let k = c.args.size.columns in
    let p = c.args.point in
    let at = c.point.view_is in
    let from = c.from-columns.ensures in
    let up : SomeIff c.if-columns-number.up (k ≤ p) (p - k) = elim c.if-columns-number.branch [
      | then-columns-number w ↦ rw w.up-is (omega arith, omega arith)
      | else-columns-number w ↦ rw w.up-is (λ h. absurd (omega arith))
    ] in
    let left : SomeIff c.if-column-gt0.left (0 < p % k) (p - 1) = elim c.if-column-gt0.branch [
      | then-column-gt0 w ↦ rw w.left-is (rw (at, from) at w.if-column-gt0.true, omega arith)
      | else-column-gt0 w ↦ rw w.left-is (λ h. absurd (omega (arith, h, rw (at, from) at w.if-column-gt0.false)))
    ] in
    let right : SomeIff c.if-column-columns.right (p % k + 1 < k) (p + 1) = elim c.if-column-columns.branch [
      | then-column-columns w ↦ rw w.right-is (rw (at, from) at w.if-column-columns.true, omega arith)
      | else-column-columns w ↦ rw w.right-is (λ h. absurd (omega (arith, h, rw (at, from) at w.if-column-columns.false)))
    ] in
    let down : SomeIff c.if-number-columns.down (p + k < k * c.args.size.rows) (p + k) = elim c.if-number-columns.branch [
      | then-number-columns w ↦ rw w.down-is (omega arith, omega arith)
      | else-number-columns w ↦ rw w.down-is (λ h. absurd (omega arith))
    ] in
    near_is k c.args.size.rows p _ _ _ _ (omega arith) c.requires up left right down
