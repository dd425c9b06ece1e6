use Rattle.std.proofs.Common.{◌+◌, ◌≤◌, ap, subst, sym, ◌∙◌, IfOk}
use Rattle.endgame_solver.specs.Faults.{most_steps}
use Rattle.region_cut.specs.Cut.{AreRegionsOfPlay}
use Rattle.gtp_engine.specs.inner.Playing.{IsOpened}
use Rattle.gtp_engine.specs.Session.{with_side}
use Rattle.gtp_engine.proofs.engine.Engine.opened.Goals as goal

pub returns-clause-opened : goal.returns-clause-opened
returns-clause-opened g c =
    let inside = c.self.inside in let r = c.open-game.result in
    subst (λ a. IfOk r (IsOpened a.limits.cycles a.limits.game (with_side a.table.setup c.args.colour))) c.self.view_is
    (subst (λ s. IfOk r (IsOpened inside.limits.cycles inside.limits.game s)) c.in_ok-setup.ensures c.open-game.ensures.opened)

pub returns-clause-steps : goal.returns-clause-steps
returns-clause-steps g c regions are =
    let board = ap (λ s. s.board) c.in_ok-setup.ensures ∙ ap (λ a. a.table.setup.board) c.self.view_is in
    subst (λ l. c.open-game.new.steps ≤ c.args.steps.now + most_steps l regions) (ap (λ a. a.limits.game) c.self.view_is)
    (c.open-game.ensures.steps regions (subst (λ b. AreRegionsOfPlay b regions) (sym board) are))
