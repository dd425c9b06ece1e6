use Rattle.std.proofs.Common.{None, refl, subst, sym, ◌∙◌, ◌≡◌}
use Rattle.whole_budgets.specs.EnginePlay.{WinsWithList}
use Rattle.cycle_solver.proofs.KeepingLaws.{keeping_first, keeping_found}
use Rattle.cycle_solver.specs.Keeping.{IsFirstOf, Keeps}
use Rattle.cycle_solver.proofs.LentLaws.{answers_back, kept_back, returned, seen_for}
use Rattle.cycle_solver.proofs.cycle_game.CycleGame.keeping_move.Goals as goal

pub returns-in-Black-clause-first : goal.returns-in-Black-clause-first
returns-in-Black-clause-first c =
    let first = subst (λ rs. IsFirstOf (Keeps rs c.self.inside.whole c.args.budgets.now) c.first_keeping.result) c.deref.ensures.value c.first_keeping.ensures.first in
    keeping_first c.args.self.now.regions c.args.self.now.state c.args.budgets.now c.first_keeping.result
    (subst (λ v. IsFirstOf (Keeps v.regions v.state c.args.budgets.now) c.first_keeping.result) c.self.view_is first)

pub returns-in-White-clause-first : goal.returns-in-White-clause-first
returns-in-White-clause-first c =
    let answer = c.first_keeping-in-White in
    let first = subst (λ rs. IsFirstOf (Keeps rs c.self.inside.whole c.args.budgets.now) answer.result) c.deref.ensures.value answer.ensures.first in
    keeping_first c.args.self.now.regions c.args.self.now.state c.args.budgets.now answer.result
    (subst (λ v. IsFirstOf (Keeps v.regions v.state c.args.budgets.now) answer.result) c.self.view_is first)

pub returns-in-Black-clause-found : goal.returns-in-Black-clause-found
returns-in-Black-clause-found c =
    let i = c.self.inside in
    let bs = c.args.budgets.now in
    let answer = c.first_keeping in
    let held = c.self.invariant.0.held in
    subst (λ v. answer.result ≡ None → ¬ WinsWithList v.regions v.state.side v.state bs) c.self.view_is
    (keeping_found held.board i.regions.items held.solved.cut i.whole bs answer.result
    (subst (λ rs. IsFirstOf (Keeps rs i.whole bs) answer.result) c.deref.ensures.value answer.ensures.first))

pub returns-in-White-clause-found : goal.returns-in-White-clause-found
returns-in-White-clause-found c =
    let i = c.self.inside in
    let bs = c.args.budgets.now in
    let answer = c.first_keeping-in-White in
    let held = c.self.invariant.0.held in
    subst (λ v. answer.result ≡ None → ¬ WinsWithList v.regions v.state.side v.state bs) c.self.view_is
    (keeping_found held.board i.regions.items held.solved.cut i.whole bs answer.result
    (subst (λ rs. IsFirstOf (Keeps rs i.whole bs) answer.result) c.deref.ensures.value answer.ensures.first))

pub first_keeping-requires-clause-fits : goal.first_keeping-requires-clause-fits
first_keeping-requires-clause-fits c = c.self.invariant.1

pub invariant_of-self : goal.invariant_of-self
invariant_of-self c =
    let inv = c.self.invariant in
    let low = returned c.deref_mut.ensures.value c.deref_mut.ensures.len c.first_keeping.ensures.same in (
      kept_back inv.0 low refl,
      c.first_keeping.ensures.fits,
      answers_back inv.2 low,
      inv.3,
    )

pub returns-in-Black-clause-same : goal.returns-in-Black-clause-same
returns-in-Black-clause-same c = c.self.view_is

pub first_keeping-requires-clause-seen : goal.first_keeping-requires-clause-seen
first_keeping-requires-clause-seen c =
    let kept = c.self.invariant.0 in
    seen_for (sym c.in-Black.is ∙ c.side.ensures) kept.held kept.low_sum c.deref.ensures.value refl c.deref-2.ensures.value c.deref_mut.ensures.value

pub first_keeping-requires-in-White-clause-fits : goal.first_keeping-requires-in-White-clause-fits
first_keeping-requires-in-White-clause-fits c = c.self.invariant.1

pub invariant_of-self-in-White : goal.invariant_of-self-in-White
invariant_of-self-in-White c =
    let inv = c.self.invariant in
    let high = returned c.deref_mut-in-White.ensures.value c.deref_mut-in-White.ensures.len c.first_keeping-in-White.ensures.same in (
      kept_back inv.0 refl high,
      c.first_keeping-in-White.ensures.fits,
      inv.2,
      answers_back inv.3 high,
    )

pub returns-in-White-clause-same : goal.returns-in-White-clause-same
returns-in-White-clause-same c = c.self.view_is

pub first_keeping-requires-in-White-clause-seen : goal.first_keeping-requires-in-White-clause-seen
first_keeping-requires-in-White-clause-seen c =
    let kept = c.self.invariant.0 in
    seen_for (sym c.in-White.is ∙ c.side.ensures) kept.held kept.high_sum c.deref.ensures.value refl c.deref-2.ensures.value c.deref_mut-in-White.ensures.value
