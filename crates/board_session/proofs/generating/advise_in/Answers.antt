use Rattle.std.proofs.Common.{subst, IfOk, string_bytes}
use Rattle.board_session.specs.Cycles.{AdvisesWith, TellsIn}
use Rattle.board_session.specs.Generating.{setup_of}
use Rattle.board_orders.specs.States.{present}
use Rattle.board_session.specs.inner.Generating.{MayFollow, advice_of}
use Rattle.board_session.specs.inner.Settling.{SettlesAs}
use Rattle.board_session.proofs.CycleAdviceLemmas.{told_may_follow, unsettled_advises}
use Rattle.board_orders.proofs.HandicapLemmas.{if_ok}
use Rattle.board_session.proofs.generating.advise_in.Goals as goal

pub returns-in-Position-clause-advised : goal.returns-in-Position-clause-advised
returns-in-Position-clause-advised g c =
    let now = c.args.session.now in let limits = c.args.limits.now in let cycles = c.args.cycles in let parts = setup_of (present now) now.komi_halves c.args.colour in
    subst (λ a. IfOk c.advise.result (λ advice. AdvisesWith cycles limits parts a.passes (advice_of advice))) c.present.ensures.value
    (subst (λ setup. IfOk c.advise.result (λ advice. AdvisesWith cycles limits setup c.present.result.now.passes (advice_of advice)))
    (subst (SettlesAs parts) c.in-Position.is c.in_ok-setup.ensures.settled) c.advise.ensures.advised)

pub returns-in-Position-clause-may : goal.returns-in-Position-clause-may
returns-in-Position-clause-may g c =
    let now = c.args.session.now in let limits = c.args.limits.now in let cycles = c.args.cycles in let colour = c.args.colour in
    if_ok (λ advice. TellsIn cycles limits now colour (advice_of advice)) (λ advice. MayFollow colour (advice_of advice) now) c.advise.result
    (λ advice advised. told_may_follow cycles limits now colour (advice_of advice) c.settle_present.ensures.komi advised) (returns-in-Position-clause-advised g c)

pub returns-in-Unsettled-clause-advised : goal.returns-in-Unsettled-clause-advised
returns-in-Unsettled-clause-advised g c =
    let now = c.args.session.now in let parts = setup_of (present now) now.komi_halves c.args.colour in
    let (point, first, is) = subst (SettlesAs parts) c.in-Unsettled.is c.in_ok-setup.ensures.settled in
    unsettled_advises c.args.cycles c.args.limits.now parts (present now).passes point (string_bytes c.in-Unsettled.words) first is
