use Rattle.std.proofs.Common.{inl, inr, subst, sym, ap, ◌∙◌, length, false}
use Rattle.fault_words.specs.FaultWords.{AreFaultWords}
use Rattle.fault_words.specs.NamedPoints.{NamesPoints}
use Rattle.fault_words.proofs.NamedPointLemmas.{names_points}
use Rattle.gtp_words.specs.Vertices.{vertex_text}
use Rattle.std.specs.Prelude.{string_bytes}
use Rattle.board_session.specs.Generating.{Advises}
use Rattle.board_session.specs.inner.Generating.{IsTold, advice_of}
use Rattle.board_session.proofs.GeneratingLemmas.{told_advises}
use Rattle.board_orders.proofs.HandicapLemmas.{if_ok}
use Rattle.board_session.proofs.advice.open.Goals as goal

pub fault_words-requires : goal.fault_words-requires
fault_words-requires g c =
    subst (λ n. NamesPoints n c.in-Err.fault) (sym (c.size-size.ensures.area ∙ ap (λ g. length g.cells) c.board.ensures.board)) (names_points c.args.setup.now false c.args.limits.now c.in-Err.fault c.in-Err.ensures.begun)

pub returns-in-Ok-clause-advised : goal.returns-in-Ok-clause-advised
returns-in-Ok-clause-advised g c =
    let limits = c.args.limits.now in let setup = c.args.setup.now in let game = c.in-Ok.game in let (opening, are_regions, sound) = c.in-Ok.ensures.begun in
    if_ok (λ advice. IsTold c.args.passes game.state (advice_of advice)) (λ advice. Advises limits setup c.args.passes (advice_of advice)) c.tell-advice.result
    (λ advice told. told_advises limits setup c.args.passes game.state (advice_of advice) c.board.ensures.fit.settled
    (record { regions = game.regions; are_regions = are_regions; sound = sound; opening = opening }) told) c.tell-advice.ensures

pub returns-in_ok-words-in-Err-clause-advised : goal.returns-in_ok-words-in-Err-clause-advised
returns-in_ok-words-in-Err-clause-advised g c =
    let limits = c.args.limits.now in let fault = c.in-Err.fault in let size = c.size-size.result in let words = string_bytes c.in_ok-words-in-Err.words in
    inr (
      c.board.ensures.fit.settled,
      inl (
        fault,
        c.in-Err.ensures.begun,
        subst (λ n. AreFaultWords (vertex_text n c.args.setup.now.board.rows) limits fault words) (c.size-size.ensures.columns ∙ ap (λ g. g.columns) c.board.ensures.board)
            (subst (λ n. AreFaultWords (vertex_text size.columns n) limits fault words) (c.size-size.ensures.rows ∙ ap (λ g. g.rows) c.board.ensures.board) c.in_ok-words-in-Err.ensures),
      ),
    )
