use Rattle.std.proofs.Common.{◌≡◌, subst, sym, IfOk, string_bytes, ap, ◌∙◌, length}
use Rattle.gtp_words.specs.Vertices.{vertex_text}
use Rattle.board_session.specs.Cycles.{AreCycleFaultWords}
use Rattle.board_orders.specs.Effects.{reply_text, unsolved}
use Rattle.board_session.specs.inner.Analysing.{RepliesOnWithCycles}
use Rattle.board_session.specs.inner.Cycles.{NamesPoint}
use Rattle.board_session.proofs.CycleAdviceLemmas.{names_point}
use Rattle.board_session.proofs.CycleAnalysisLemmas.{begins_play, cycle_fault_told, cycles_reply_in}
use Rattle.board_orders.proofs.KeptLemmas.{same_komi}
use Rattle.board_session.proofs.cycle_analysis.reply_with_cycles.Goals as goal

pub words_of-requires : goal.words_of-requires
words_of-requires g c =
    let setup = c.args.setup.now in let limits = c.args.limits.now in let fault = c.in-Err.fault in
    subst (λ n. NamesPoint n fault) (sym (c.size-size.ensures.area ∙ ap (λ g. length g.cells) c.board.ensures.board)) (names_point setup limits 32 fault (begins_play setup limits 32 fault c.in-Err.ensures.begun))

pub returns-in-Ok-clause-replied : goal.returns-in-Ok-clause-replied
returns-in-Ok-clause-replied g c =
    cycles_reply_in c.args.limits.now c.args.topic c.args.setup.now c.args.id.now c.in-Ok.game c.reply_on-reply.result c.board.ensures.fit.settled c.in-Ok.ensures.begun
    (subst (λ k. IfOk c.reply_on-reply.result (RepliesOnWithCycles c.args.topic c.in-Ok.game.state k c.args.id.now)) (same_komi c.komi_halves.result c.komi_halves.ensures.most ∙ c.komi_halves.ensures.value)
    c.reply_on-reply.ensures)

pub returns-in_ok-words-in-Err-clause-replied : goal.returns-in_ok-words-in-Err-clause-replied
returns-in_ok-words-in-Err-clause-replied g c =
    let limits = c.args.limits.now in let fault = c.in-Err.fault in let size = c.size-size.result in let words = string_bytes c.in_ok-words-in-Err.words in
    cycle_fault_told limits c.args.topic c.args.setup.now c.args.id.now fault words c.refuse_unsolved.result c.board.ensures.fit.settled c.in-Err.ensures.begun
    (subst (λ n. AreCycleFaultWords (vertex_text n c.args.setup.now.board.rows) limits fault words) (c.size-size.ensures.columns ∙ ap (λ g. g.columns) c.board.ensures.board)
    (subst (λ n. AreCycleFaultWords (vertex_text size.columns n) limits fault words) (c.size-size.ensures.rows ∙ ap (λ g. g.rows) c.board.ensures.board) c.in_ok-words-in-Err.ensures))
    (subst (λ t. IfOk c.refuse_unsolved.result (λ reply. reply ≡ reply_text c.args.id.now (unsolved t))) c.deref.ensures c.refuse_unsolved.ensures)
