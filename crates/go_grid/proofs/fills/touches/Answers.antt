use Rattle.std.proofs.Common.{inl, inr}
use Rattle.go_grid.proofs.BoardLemmas.{area_most}
use Rattle.go_grid.proofs.NearLemmas.{near_below}
use Rattle.go_grid.proofs.fills.touches.Goals as goal
use Rattle.go_grid.proofs.fills.touches.Goals.{then-has, else-has, then-has-2, else-has-2}

pub has-requires : goal.has-requires
has-requires c = let s = c.args.size in near_below _ _ _ _ _ _ _ c.neighbours-near.ensures.near _ 625 (area_most s.columns s.rows s.columns_in.1 s.rows_in.1) (λ q e. inl e)

pub has-requires-else-has : goal.has-requires-else-has
has-requires-else-has c = let s = c.args.size in near_below _ _ _ _ _ _ _ c.neighbours-near.ensures.near _ 625 (area_most s.columns s.rows s.columns_in.1 s.rows_in.1) (λ q e. inr (inl e))

pub has-requires-else-has-2 : goal.has-requires-else-has-2
has-requires-else-has-2 c =
    let s = c.args.size in
    let right = near_below _ _ _ _ _ _ _ c.neighbours-near.ensures.near c.neighbours-near.result.right 625 (area_most s.columns s.rows s.columns_in.1 s.rows_in.1) (λ q e. inr (inr (inl e))) in
    elim c.if-has.branch [
      | then-has w ↦ rw w.near-is right
      | else-has w ↦ rw w.near-is right
    ]

pub has-requires-else-has-3 : goal.has-requires-else-has-3
has-requires-else-has-3 c =
    let s = c.args.size in
    let down = near_below _ _ _ _ _ _ _ c.neighbours-near.ensures.near c.neighbours-near.result.down 625 (area_most s.columns s.rows s.columns_in.1 s.rows_in.1) (λ q e. inr (inr (inr e))) in
    elim c.if-has-2.branch [
      | then-has-2 w ↦ elim c.if-has.branch [ then-has v ↦ rw (w.near-is, v.near-is) down | else-has v ↦ rw (w.near-is, v.near-is) down ]
      | else-has-2 w ↦ elim c.if-has.branch [ then-has v ↦ rw (w.near-is, v.near-is) down | else-has v ↦ rw (w.near-is, v.near-is) down ]
    ]
