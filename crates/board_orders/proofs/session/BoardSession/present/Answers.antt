use Rattle.std.proofs.Common.{◌≢◌, ◌∙◌, ap, sym, subst, length, get_or, ◌-◌}
use Rattle.board_orders.specs.Kept.{IsFitAfter}
use Rattle.board_orders.specs.States.{present}
use Rattle.board_orders.proofs.KeptLemmas.{after_last, fits_present}
use Rattle.board_orders.proofs.session.BoardSession.present.Goals as goal

pub returns-clause-value : goal.returns-clause-value
returns-clause-value c =
    let moves = c.self.inside.moves.items in let made = c.index-moves-number.result in let same = c.as_slice-moves.ensures.value in
    let some : length moves ≢ 0 = λ none. c.if-number-eq0.false (ap length same ∙ none) in
    ap (λ l. (get_or l (length l - 1) made).after) same ∙ sym (after_last c.self.inside.setup moves made some) ∙ ap present c.self.view_is

pub returns-clause-fit : goal.returns-clause-fit
returns-clause-fit c =
    let moves = c.self.inside.moves.items in let made = c.index-moves-number.result in let same = c.as_slice-moves.ensures.value in
    let some : length moves ≢ 0 = λ none. c.if-number-eq0.false (ap length same ∙ none) in
    subst (λ s. IsFitAfter s.setup (length s.moves) (get_or c.as_slice-moves.result.now (length c.as_slice-moves.result.now - 1) made).after) c.self.view_is
    (subst (IsFitAfter c.self.inside.setup (length moves)) (after_last c.self.inside.setup moves made some ∙ sym (ap (λ l. (get_or l (length l - 1) made).after) same))
    (fits_present c.self.inside.komi_halves c.self.inside.setup moves c.self.invariant))
