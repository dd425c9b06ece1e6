use Rattle.std.proofs.Common.{◌≡◌, ◌∙◌, string_bytes, subst, IfOk}
use Rattle.board_orders.specs.Effects.{done, reply_text}
use Rattle.board_orders.specs.Texts.{vertices_text}
use Rattle.board_session.proofs.AnalysisLemmas.{stones_told}
use Rattle.board_session.proofs.statuses.tell_stones.Goals as goal

pub returns : goal.returns
returns c =
    stones_told c.args.status c.args.board.now c.in_ok-stones.stones.items (string_bytes c.in_ok-text.text) c.args.id.now c.accept.result c.requires c.in_ok-stones.ensures.stones
    (c.in_ok-text.ensures ∙ (λ i. vertices_text (c.size.ensures.columns i) (c.size.ensures.rows i) (c.deref.ensures.value i)))
    (subst (λ t. IfOk c.accept.result (λ reply. reply ≡ reply_text c.args.id.now (done t))) c.as_bytes.ensures.value c.accept.ensures)
