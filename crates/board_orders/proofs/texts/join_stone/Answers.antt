use Rattle.std.proofs.Common.{sym, ap, ◌∙◌, string_bytes}
use Rattle.std.specs.Prelude.{codes}
use Rattle.gtp_words.specs.Vertices.{vertex_text}
use Rattle.board_orders.specs.Texts.{has_colour, joined}
use Rattle.board_orders.proofs.TextLemmas.{on_ok, stone_more, stone_none}
use Rattle.board_orders.proofs.texts.join_stone.Goals as goal

pub returns-then-has_colour : goal.returns-then-has_colour
returns-then-has_colour c =
    let g = c.args.board.now in let old = string_bytes c.args.text.now in let new = string_bytes c.join.new.text in
    on_ok c.join.result
    (λ is so_far. stone_more g c.args.colour c.args.point old new so_far (ap (has_colour c.args.colour) (sym c.get.ensures) ∙ sym c.has_colour.ensures ∙ c.if-has_colour.true)
    (is ∙ ap (joined (codes " ") old) (c.deref.ensures ∙ c.in_ok-vertex.ensures ∙ ap (λ n. vertex_text n c.size-size.result.rows c.args.point) c.size-size.ensures.columns ∙ ap (λ n. vertex_text g.columns n c.args.point) c.size-size.ensures.rows)))
    c.join.ensures

pub returns : goal.returns
returns c so_far =
    stone_none c.args.board.now c.args.colour c.args.point (string_bytes c.args.text.now) (string_bytes c.args.text.now) so_far (ap (has_colour c.args.colour) (sym c.get.ensures) ∙ sym c.has_colour.ensures ∙ c.if-has_colour.false)
