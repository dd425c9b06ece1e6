use Rattle.std.proofs.Common.{sym, subst, ap, ◌∙◌}
use Rattle.board_orders.specs.Kept.{IsFit, IsModest}
use Rattle.board_orders.specs.States.{taken_up}
use Rattle.board_orders.proofs.KeptLemmas.{fits_start, same_komi}
use Rattle.board_orders.proofs.session.BoardSession.take_up.Goals as goal

pub invariant_of-self : goal.invariant_of-self
invariant_of-self c =
    let setup = c.args.setup in let position = c.with_prisoners.result in let komi = setup.komi_halves in let moves = c.clear.new.self.items in
    let taken = c.komi_halves-komi_halves in
    subst (λ h. IsFit h position moves) (sym (same_komi taken.result taken.ensures.most ∙ taken.ensures.value))
    (subst (λ p. IsFit komi p moves)
    (sym (c.with_prisoners.ensures ∙ ap (λ b. taken_up b c.black_prisoners-black.result c.white_prisoners-white.result) c.into_board.ensures
    ∙ ap (λ n. taken_up setup.board n c.white_prisoners-white.result) c.black_prisoners-black.ensures.value ∙ ap (taken_up setup.board setup.black_prisoners) c.white_prisoners-white.ensures.value))
    (subst (IsFit komi (taken_up setup.board setup.black_prisoners setup.white_prisoners)) (sym c.clear.ensures.items) (fits_start setup (subst IsModest taken.ensures.value taken.ensures.most) c.requires)))
