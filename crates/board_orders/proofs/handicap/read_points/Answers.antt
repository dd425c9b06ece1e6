use Rattle.std.proofs.Common.{◌+◌, [], sym, subst, ap, refl, inl, map, drop, arith, append-nil}
use Rattle.std.proofs.lemmas.List.{drop_all, drop_more}
use Rattle.board_orders.specs.Handicaps.{NamePoints}
use Rattle.board_orders.proofs.HandicapLemmas.{Reading, reading_more}
use Rattle.board_orders.proofs.handicap.read_points.Goals as goal

pub returns-in-None : goal.returns-in-None
returns-in-None c =
    let columns = c.args.size.columns in let rows = c.args.size.rows in let words = c.args.words.now in let at = c.words.at in
    let here = ap (map (λ w. w.now)) (drop_more words at _ c.words-test.true) in
    (subst (Reading columns rows (map (λ w. w.now) words) c.words.points.items) here c.words.invariant).astray (inl c.in-None.ensures.none)

pub words-preserved : goal.words-preserved
words-preserved c =
    let columns = c.args.size.columns in let rows = c.args.size.rows in let words = c.args.words.now in let at = c.words.at in
    let here = ap (map (λ w. w.now)) (drop_more words at _ c.words-test.true) in
    let all = map (λ w. w.now) words in
    subst (λ l. Reading columns rows all l (map (λ w. w.now) (drop (at + 1) words))) (sym c.in_ok-push-in-Some.ensures.items)
    (reading_more columns rows all c.words.points.items _ _ c.in-Some.point (subst (Reading columns rows all c.words.points.items) here c.words.invariant) c.in-Some.ensures.some c.in-Some.ensures.on_board)

pub returns : goal.returns
returns c =
    let columns = c.args.size.columns in let rows = c.args.size.rows in let words = c.args.words.now in let points = c.words.points.items in
    let r = subst (λ l. Reading columns rows (map (λ w. w.now) words) points (map (λ w. w.now) l)) (drop_all c.words.at words (omega (arith, c.words-test.false))) c.words.invariant in
    (subst (NamePoints columns rows (map (λ w. w.now) words)) (append-nil points) (r.named [] refl), r.on_board)
