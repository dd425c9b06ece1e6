use Rattle.std.proofs.Common.{◌≡◌, ◌∙◌, ◌+◌, ◌∷◌, sym, ap, drop, string_bytes}
use Rattle.std.specs.Prelude.{codes}
use Rattle.std.proofs.lemmas.List.{drop_more}
use Rattle.board_orders.specs.Texts.{joined, vertices_text}
use Rattle.board_orders.proofs.TextLemmas.{vertices_all, vertices_more}
use Rattle.board_orders.proofs.texts.vertices_text.Goals as goal

pub points-preserved : goal.points-preserved
points-preserved c =
    let columns = c.args.size.columns in let rows = c.args.size.rows in let points = c.args.points.now in let at = c.points.at in let p = c.index-points-at.result in
    let here : drop at points ≡ p ∷ drop (at + 1) points = drop_more points at p c.points-test.true ∙ ap (λ k. k ∷ drop (at + 1) points) (sym c.index-points-at.is) in
    vertices_more columns rows points at p (string_bytes c.points.text) (string_bytes c.join.new.text) (vertices_text columns rows points) here
    (c.in_ok-join.ensures ∙ ap (joined (codes " ") (string_bytes c.points.text)) (c.deref.ensures ∙ c.in_ok-vertex.ensures)) c.points.invariant

pub returns : goal.returns
returns c =
    let columns = c.args.size.columns in let rows = c.args.size.rows in let points = c.args.points.now in
    vertices_all columns rows points c.points.at (string_bytes c.points.text) (vertices_text columns rows points) c.points-test.false c.points.invariant
