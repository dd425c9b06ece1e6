use Rattle.std.proofs.Common.{sym, subst}
use Rattle.board_orders.specs.Kept.{IsFit}
use Rattle.board_orders.specs.Doing.{IsFitMove}
use Rattle.board_orders.proofs.KeptLemmas.{fits_push}
use Rattle.board_orders.proofs.session.BoardSession.add.Goals as goal

pub invariant_of-self-2 : goal.invariant_of-self-2
invariant_of-self-2 c =
    let inside = c.self.inside in let fit = subst (λ s. IsFitMove s c.args.made) (sym c.self.view_is) c.requires in
    subst (IsFit inside.komi_halves inside.setup) (sym c.in_ok-push.ensures.items) (fits_push inside.komi_halves inside.setup inside.moves.items c.args.made c.self.invariant fit.0 fit.1 fit.2)
