use Rattle.std.proofs.Common.{◌≡◌, ◌∙◌, subst, IfOk}
use Rattle.std.specs.Prelude.{codes}
use Rattle.gtp_words.specs.Replies.{signed_text}
use Rattle.board_orders.proofs.refusal.refuse_unsolved.Goals as goal

pub returns : goal.returns
returns c =
    subst (λ t. IfOk c.compose.result (λ reply. reply ≡ signed_text (codes "?") c.args.id.now t)) (c.as_bytes.ensures.value ∙ c.in_ok-text.ensures) c.compose.ensures
