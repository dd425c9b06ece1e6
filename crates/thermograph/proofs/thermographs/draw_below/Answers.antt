use Rattle.std.proofs.Common.{arith, sym, ◌∙◌, ap, true≢false}
use Rattle.std.proofs.lemmas.Result.{err_from_is_err_and}
use Rattle.thermograph.specs.declared.drawings.Walls.{Walls}
use Rattle.thermograph.proofs.DrawingLaws.{drawn-below, drawn-push}
use Rattle.thermograph.proofs.BoundLaws.{past-bounds_of}
use Rattle.thermograph.proofs.thermographs.draw_below.Goals as goal
use Rattle.thermograph.proofs.thermographs.draw_below.Goals.{then-flags-place+in_ok-drawing+in_ok-push, else-flags-place+in_ok-push-2}

pub draw_form-requires-clause-known : goal.draw_form-requires-clause-known
draw_form-requires-clause-known c = drawn-below c.args.store.now c.args.flags.now c.args.id c.loop-place.place _ _ c.requires.flags c.loop-place.invariant (omega (arith, c.loop-place-test.true, c.requires.flags.size)) c.if-flags-place.true

pub returns-in_err-drawing-clause-bounds : goal.returns-in_err-drawing-clause-bounds
returns-in_err-drawing-clause-bounds c =
    let p = err_from_is_err_and c.from_residual.result c.from_residual.ensures.1 in
    rw (p.1, p.2) (λ e. past-bounds_of _ _
    (c.requires.flags.follows c.loop-place.place (omega (arith, c.loop-place-test.true, c.requires.flags.size)) c.if-flags-place.true) (c.in_err-drawing.ensures.bounds e))

pub loop-place-preserved : goal.loop-place-preserved
loop-place-preserved c = elim c.if-flags-place.branch [
  | then-flags-place+in_ok-drawing+in_ok-push w ↦ drawn-push c.args.store.now c.args.flags.now c.loop-place.place c.loop-place.walls.left.items c.loop-place.walls.right.items _ _ w.in_ok-drawing.drawing.left w.in_ok-drawing.drawing.right c.loop-place.invariant
      (ap (λ (x : Walls). x.left.items) w.walls-is ∙ (w.in_ok-push.ensures {u = tt}).left) (ap (λ (x : Walls). x.right.items) w.walls-is ∙ (w.in_ok-push.ensures {u = tt}).right) (λ _. (w.in_ok-drawing.ensures {u = tt}).drawn.drawn)
  | else-flags-place+in_ok-push-2 w ↦ drawn-push c.args.store.now c.args.flags.now c.loop-place.place c.loop-place.walls.left.items c.loop-place.walls.right.items _ _ w.new-else-flags-place.result w.new-else-flags-place-2.result c.loop-place.invariant
      (ap (λ (x : Walls). x.left.items) w.walls-is ∙ (w.in_ok-push-2.ensures {u = tt}).left) (ap (λ (x : Walls). x.right.items) w.walls-is ∙ (w.in_ok-push-2.ensures {u = tt}).right) (λ m. absurd (true≢false (sym m ∙ w.if-flags-place.false)))
]
