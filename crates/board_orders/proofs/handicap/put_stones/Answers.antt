use Rattle.std.proofs.Common.{◌≡◌, ◌+◌, ◌∷◌, ◌∙◌, sym, subst, ap, drop}
use Rattle.std.proofs.lemmas.List.{drop_more}
use Rattle.board_orders.proofs.HandicapLemmas.{Putting, putting_more, putting_refused}
use Rattle.board_orders.proofs.handicap.put_stones.Goals as goal

pub returns-in-Err : goal.returns-in-Err
returns-in-Err c =
    let g = c.args.board.now in let points = c.args.points.now in let held = c.stones.held in let at = c.stones.at in let p = c.index-points-at.result in
    let here : drop at points ≡ p ∷ drop (at + 1) points = drop_more points at p c.stones-test.true ∙ ap (λ k. k ∷ drop (at + 1) points) (sym c.index-points-at.is) in
    putting_refused g points held p (drop (at + 1) points) c.place.new.board c.in-Err.field-0 (subst (Putting g points held) here c.stones.invariant) c.in-Err.ensures

pub stones-preserved : goal.stones-preserved
stones-preserved c =
    let g = c.args.board.now in let points = c.args.points.now in let held = c.stones.held in let at = c.stones.at in let p = c.index-points-at.result in
    let here : drop at points ≡ p ∷ drop (at + 1) points = drop_more points at p c.stones-test.true ∙ ap (λ k. k ∷ drop (at + 1) points) (sym c.index-points-at.is) in
    putting_more g points held p (drop (at + 1) points) c.place.new.board c.in-Ok._number (subst (Putting g points held) here c.stones.invariant) c.in-Ok.ensures
