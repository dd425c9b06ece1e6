use Rattle.std.proofs.Common.{◌≡◌, subst, sym, IfOk, ap, ◌∙◌, length, false}
use Rattle.std.specs.Prelude.{string_bytes}
use Rattle.fault_words.specs.FaultWords.{AreFaultWords}
use Rattle.fault_words.specs.NamedPoints.{NamesPoints}
use Rattle.fault_words.proofs.NamedPointLemmas.{names_points}
use Rattle.gtp_words.specs.Vertices.{vertex_text}
use Rattle.board_session.specs.Analysing.{none_found}
use Rattle.board_session.specs.Session.{finding_said}
use Rattle.board_orders.specs.Effects.{reply_text}
use Rattle.board_session.specs.inner.Analysing.{RepliesOn}
use Rattle.board_session.proofs.AnalysisLemmas.{fault_told, replies_in}
use Rattle.board_orders.proofs.KeptLemmas.{same_komi}
use Rattle.board_session.proofs.analysis.reply_in.Goals as goal

pub fault_words-requires : goal.fault_words-requires
fault_words-requires g c =
    subst (λ n. NamesPoints n c.in-Err.fault) (sym (c.size-size.ensures.area ∙ ap (λ g. length g.cells) c.board.ensures.board)) (names_points c.args.setup.now false c.args.limits.now c.in-Err.fault c.in-Err.ensures.begun)

pub returns-in-Ok-clause-replied : goal.returns-in-Ok-clause-replied
returns-in-Ok-clause-replied g c =
    replies_in c.args.limits.now c.args.topic c.args.setup.now c.in-Ok.game c.args.id.now c.reply_on-reply.result c.board.ensures.fit.settled c.in-Ok.ensures.begun
    (subst (λ k. IfOk c.reply_on-reply.result (RepliesOn c.args.topic c.in-Ok.game.regions c.in-Ok.game.state k c.args.id.now)) (same_komi c.komi_halves.result c.komi_halves.ensures.most ∙ c.komi_halves.ensures.value)
    c.reply_on-reply.ensures)

pub returns-in_ok-words-in-Err-clause-replied : goal.returns-in_ok-words-in-Err-clause-replied
returns-in_ok-words-in-Err-clause-replied g c =
    let limits = c.args.limits.now in let fault = c.in-Err.fault in let size = c.size-size.result in let words = string_bytes c.in_ok-words-in-Err.words in
    fault_told limits c.args.topic c.args.setup.now fault words c.args.id.now c.refuse_topic.result c.board.ensures.fit.settled c.in-Err.ensures.begun
    (subst (λ n. AreFaultWords (vertex_text n c.args.setup.now.board.rows) limits fault words) (c.size-size.ensures.columns ∙ ap (λ g. g.columns) c.board.ensures.board)
    (subst (λ n. AreFaultWords (vertex_text size.columns n) limits fault words) (c.size-size.ensures.rows ∙ ap (λ g. g.rows) c.board.ensures.board) c.in_ok-words-in-Err.ensures))
    (subst (λ t. IfOk c.refuse_topic.result (λ reply. reply ≡ reply_text c.args.id.now (finding_said (none_found c.args.topic t)))) c.deref.ensures c.refuse_topic.ensures)
