use Rattle.std.proofs.Common.{inl, inr, subst, sym, string_bytes, ap, ◌∙◌, length}
use Rattle.gtp_words.specs.Vertices.{vertex_text}
use Rattle.board_session.specs.Cycles.{AdvisesWithCycles, AreCycleFaultWords}
use Rattle.board_session.specs.inner.Cycles.{IsToldWithCycles, NamesPoint}
use Rattle.board_session.specs.inner.Generating.{advice_of}
use Rattle.board_session.proofs.CycleAdviceLemmas.{names_point, told_with_cycles}
use Rattle.board_orders.proofs.HandicapLemmas.{if_ok}
use Rattle.board_session.proofs.cycle_advice.open_with_cycles.Goals as goal

pub tell-advice-requires : goal.tell-advice-requires
tell-advice-requires g c = let (opening, are, steady, black, white, moves) = c.in-Ok.ensures.begun in record { nothing = (black, white) }

pub words_of-requires : goal.words_of-requires
words_of-requires g c =
    subst (λ n. NamesPoint n c.in-Err.fault) (sym (c.size-size.ensures.area ∙ ap (λ g. length g.cells) c.board.ensures.board)) (names_point c.args.setup.now c.args.limits.now 32 c.in-Err.fault c.in-Err.ensures.begun)

pub returns-in-Ok-clause-advised : goal.returns-in-Ok-clause-advised
returns-in-Ok-clause-advised g c =
    let limits = c.args.limits.now in let setup = c.args.setup.now in let game = c.in-Ok.game in
    if_ok (λ advice. IsToldWithCycles c.args.passes game (advice_of advice)) (λ advice. AdvisesWithCycles limits setup c.args.passes (advice_of advice)) c.tell-advice.result
    (λ advice told. told_with_cycles limits setup c.args.passes game (advice_of advice) c.board.ensures.fit.settled c.in-Ok.ensures.begun told) c.tell-advice.ensures

pub returns-in_ok-words-in-Err-clause-advised : goal.returns-in_ok-words-in-Err-clause-advised
returns-in_ok-words-in-Err-clause-advised g c =
    let limits = c.args.limits.now in let fault = c.in-Err.fault in let size = c.size-size.result in let words = string_bytes c.in_ok-words-in-Err.words in
    inr (
      c.board.ensures.fit.settled,
      inl (
        fault,
        c.in-Err.ensures.begun,
        subst (λ n. AreCycleFaultWords (vertex_text n c.args.setup.now.board.rows) limits fault words) (c.size-size.ensures.columns ∙ ap (λ g. g.columns) c.board.ensures.board)
            (subst (λ n. AreCycleFaultWords (vertex_text size.columns n) limits fault words) (c.size-size.ensures.rows ∙ ap (λ g. g.rows) c.board.ensures.board) c.in_ok-words-in-Err.ensures),
      ),
    )
