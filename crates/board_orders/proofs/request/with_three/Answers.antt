use Rattle.std.proofs.Common.{[], refl, subst, sym}
use Rattle.board_orders.specs.Orders.{FitsThree}
use Rattle.board_orders.specs.Orders.BoardOrder.{tell}
use Rattle.board_orders.proofs.NameLemmas.{at_none}
use Rattle.board_orders.proofs.request.with_three.Goals as goal

pub returns-in_err-_main-in-TimeSettings-clause-none : goal.returns-in_err-_main-in-TimeSettings-clause-none
returns-in_err-_main-in-TimeSettings-clause-none c =
    at_none _ _ c.from_residual.ensures (λ order fits. let h = subst (λ k. FitsThree k c.args.first.now c.args.second.now c.args.third.now order) c.in-TimeSettings.is fits in
    c.in_err-_main-in-TimeSettings.ensures.none h.0 h.3)

pub returns-in_err-_extra-in-TimeSettings-clause-none : goal.returns-in_err-_extra-in-TimeSettings-clause-none
returns-in_err-_extra-in-TimeSettings-clause-none c =
    at_none _ _ c.from_residual-in_err-_extra-in-TimeSettings.ensures (λ order fits. let h = subst (λ k. FitsThree k c.args.first.now c.args.second.now c.args.third.now order) c.in-TimeSettings.is fits in
    c.in_err-_extra-in-TimeSettings.ensures.none h.1 h.4)

pub returns-in_err-_stones-in-TimeSettings-clause-none : goal.returns-in_err-_stones-in-TimeSettings-clause-none
returns-in_err-_stones-in-TimeSettings-clause-none c =
    at_none _ _ c.from_residual-in_err-_stones-in-TimeSettings.ensures (λ order fits. let h = subst (λ k. FitsThree k c.args.first.now c.args.second.now c.args.third.now order) c.in-TimeSettings.is fits in
    c.in_err-_stones-in-TimeSettings.ensures.none h.2 h.5)

pub returns-in_ok-_stones-in-TimeSettings-clause-some : goal.returns-in_ok-_stones-in-TimeSettings-clause-some
returns-in_ok-_stones-in-TimeSettings-clause-some c =
    subst (λ k. FitsThree k c.args.first.now c.args.second.now c.args.third.now (tell [])) (sym c.in-TimeSettings.is)
    (_, _, _, c.in_ok-_main-in-TimeSettings.ensures.some, c.in_ok-_extra-in-TimeSettings.ensures.some, c.in_ok-_stones-in-TimeSettings.ensures.some, refl)

pub returns-in_ok-_stones-in-TimeSettings-clause-none : goal.returns-in_ok-_stones-in-TimeSettings-clause-none
returns-in_ok-_stones-in-TimeSettings-clause-none c = tt

pub returns-in_err-_colour-in-TimeLeft-clause-none : goal.returns-in_err-_colour-in-TimeLeft-clause-none
returns-in_err-_colour-in-TimeLeft-clause-none c =
    at_none _ _ c.from_residual-in_err-_colour-in-TimeLeft.ensures (λ order fits. let h = subst (λ k. FitsThree k c.args.first.now c.args.second.now c.args.third.now order) c.in-TimeLeft.is fits in
    c.in_err-_colour-in-TimeLeft.ensures.none h.0 h.3)

pub returns-in_err-_time-in-TimeLeft-clause-none : goal.returns-in_err-_time-in-TimeLeft-clause-none
returns-in_err-_time-in-TimeLeft-clause-none c =
    at_none _ _ c.from_residual-in_err-_time-in-TimeLeft.ensures (λ order fits. let h = subst (λ k. FitsThree k c.args.first.now c.args.second.now c.args.third.now order) c.in-TimeLeft.is fits in
    c.in_err-_time-in-TimeLeft.ensures.none h.1 h.4)

pub returns-in_err-_stones-in-TimeLeft-clause-none : goal.returns-in_err-_stones-in-TimeLeft-clause-none
returns-in_err-_stones-in-TimeLeft-clause-none c =
    at_none _ _ c.from_residual-in_err-_stones-in-TimeLeft.ensures (λ order fits. let h = subst (λ k. FitsThree k c.args.first.now c.args.second.now c.args.third.now order) c.in-TimeLeft.is fits in
    c.in_err-_stones-in-TimeLeft.ensures.none h.2 h.5)

pub returns-in_ok-_stones-in-TimeLeft-clause-some : goal.returns-in_ok-_stones-in-TimeLeft-clause-some
returns-in_ok-_stones-in-TimeLeft-clause-some c =
    subst (λ k. FitsThree k c.args.first.now c.args.second.now c.args.third.now (tell [])) (sym c.in-TimeLeft.is)
    (_, _, _, c.in_ok-_colour-in-TimeLeft.ensures.some, c.in_ok-_time-in-TimeLeft.ensures.some, c.in_ok-_stones-in-TimeLeft.ensures.some, refl)

pub returns-in_ok-_stones-in-TimeLeft-clause-none : goal.returns-in_ok-_stones-in-TimeLeft-clause-none
returns-in_ok-_stones-in-TimeLeft-clause-none c = tt
