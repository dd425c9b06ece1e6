use Rattle.std.proofs.Common.{◌⊎◌, sym, subst, ◌∙◌}
use Rattle.std.proofs.lemmas.List.{length-set}
use Rattle.go_grid.specs.Board.{other, stone}
use Rattle.go_grid.specs.Marks.{IsMarked, Marks}
use Rattle.go_grid.proofs.PointsLemmas.{item_is, noted_next}
use Rattle.go_play.specs.inner.Place.{with_stone}
use Rattle.go_play.specs.inner.Tried.{IsLost}
use Rattle.go_play.proofs.PlaceLemmas.{Loses, taken_all}
use Rattle.go_play.proofs.placements.taken.Goals as goal

pub loop-stone-preserved : goal.loop-stone-preserved
loop-stone-preserved c =
    let b = with_stone c.args.board.now c.args.point c.args.colour in
    let d = other c.args.colour in
    let at = item_is c.as_slice-stone-items.result.now _ _ c.loop-stone-test.true c.stone-item.is in (
      noted_next (Loses c.args.board.now c.args.point c.args.colour c.as_slice-stone-items.result.now) _ _ _ c.loop-stone.invariant.0
          (subst (λ s. Marks c.take_chain.new.taken (λ q. IsMarked c.loop-stone.taken q ⊎ IsLost b d s q)) at c.take_chain.ensures.taken),
      c.take_chain.ensures.judged,
    )

pub returns : goal.returns
returns c =
    taken_all c.args.board.now c.args.point c.args.colour _ _ _ _ c.loop-stone.invariant.0
    c.loop-stone.auto.stone-index-end c.loop-stone-test.false
    (length-set c.args.board.now.cells c.args.point (stone c.args.colour) ∙ sym (rw c.size.ensures.columns at c.size.ensures.area))
    (rw (c.size.ensures.columns, ← c.as_slice-stone-items.ensures) at c.look_around.ensures.around)
