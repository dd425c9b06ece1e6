use Rattle.std.proofs.lemmas.Bool.{both_ways}
use Rattle.go_grid.specs.Marks.{IsMarked}
use Rattle.go_grid.proofs.PointsLemmas.{lists_push, lists_skip}
use Rattle.go_grid.proofs.points.Points.to_list.Goals as goal
use Rattle.go_grid.proofs.points.Points.to_list.Goals.{then-self-from+in_ok-push, else-self-from}

pub loop-number-preserved : goal.loop-number-preserved
loop-number-preserved c =
    let s = c.loop-number.invariant in
    elim c.if-self-from.branch [
      | then-self-from+in_ok-push w ↦
          rw (w.points-is, w.in_ok-push.ensures.items)
          (lists_push _ (IsMarked c.args.self.now) _ s (rw (c.from.ensures, c.self.view_is) at w.if-self-from.true))
      | else-self-from w ↦
          rw w.points-is
          (lists_skip _ (IsMarked c.args.self.now) _ s (both_ways _ (rw (c.from.ensures, c.self.view_is) at w.if-self-from.false)))
    ]
