use Rattle.std.proofs.Common.{length, refl, subst, sym, ◌∙◌}
use Rattle.whole_budgets.specs.EnginePlay.{AreReducedBelow, WinsWithList}
use Rattle.cycle_solver.proofs.LentLaws.{answers_back, kept_back, returned, seen_for}
use Rattle.cycle_solver.proofs.cycle_game.CycleGame.reduce.Goals as goal

pub reduce-requires-clause-fits : goal.reduce-requires-clause-fits
reduce-requires-clause-fits c = c.self.invariant.1

pub invariant_of-self : goal.invariant_of-self
invariant_of-self c =
    let inv = c.self.invariant in
    let low = returned c.deref_mut.ensures.value c.deref_mut.ensures.len c.reduce.ensures.same in (
      kept_back inv.0 low refl,
      c.reduce.ensures.fits,
      answers_back inv.2 low,
      inv.3,
    )

pub returns-in-Black-clause-same : goal.returns-in-Black-clause-same
returns-in-Black-clause-same c = c.self.view_is

pub reduce-requires-clause-seen : goal.reduce-requires-clause-seen
reduce-requires-clause-seen c =
    let kept = c.self.invariant.0 in
    seen_for (sym c.in-Black.is ∙ c.side.ensures) kept.held kept.low_sum c.deref.ensures.value refl c.deref-2.ensures.value c.deref_mut.ensures.value

pub returns-in-Black-clause-reduced : goal.returns-in-Black-clause-reduced
returns-in-Black-clause-reduced c =
    let bs = c.args.budgets.now in
    let cs = c.reduce.new.budgets in
    subst (λ v. AreReducedBelow v.regions v.state (length v.regions) bs cs) c.self.view_is
    (subst (λ rs. AreReducedBelow rs c.self.inside.whole (length rs) bs cs) c.deref.ensures.value c.reduce.ensures.reduced)

pub returns-in-Black-clause-wins : goal.returns-in-Black-clause-wins
returns-in-Black-clause-wins c =
    let cs = c.reduce.new.budgets in
    subst (λ v. WinsWithList v.regions v.state.side v.state cs) c.self.view_is
    (subst (λ rs. WinsWithList rs c.self.inside.whole.side c.self.inside.whole cs) c.deref.ensures.value c.reduce.ensures.wins)

pub reduce-requires-in-White-clause-fits : goal.reduce-requires-in-White-clause-fits
reduce-requires-in-White-clause-fits c = c.self.invariant.1

pub invariant_of-self-in-White : goal.invariant_of-self-in-White
invariant_of-self-in-White c =
    let inv = c.self.invariant in
    let high = returned c.deref_mut-in-White.ensures.value c.deref_mut-in-White.ensures.len c.reduce-in-White.ensures.same in (
      kept_back inv.0 refl high,
      c.reduce-in-White.ensures.fits,
      inv.2,
      answers_back inv.3 high,
    )

pub returns-in-White-clause-same : goal.returns-in-White-clause-same
returns-in-White-clause-same c = c.self.view_is

pub reduce-requires-in-White-clause-seen : goal.reduce-requires-in-White-clause-seen
reduce-requires-in-White-clause-seen c =
    let kept = c.self.invariant.0 in
    seen_for (sym c.in-White.is ∙ c.side.ensures) kept.held kept.high_sum c.deref.ensures.value refl c.deref-2.ensures.value c.deref_mut-in-White.ensures.value

pub returns-in-White-clause-reduced : goal.returns-in-White-clause-reduced
returns-in-White-clause-reduced c =
    let bs = c.args.budgets.now in
    let cs = c.reduce-in-White.new.budgets in
    subst (λ v. AreReducedBelow v.regions v.state (length v.regions) bs cs) c.self.view_is
    (subst (λ rs. AreReducedBelow rs c.self.inside.whole (length rs) bs cs) c.deref.ensures.value c.reduce-in-White.ensures.reduced)

pub returns-in-White-clause-wins : goal.returns-in-White-clause-wins
returns-in-White-clause-wins c =
    let cs = c.reduce-in-White.new.budgets in
    subst (λ v. WinsWithList v.regions v.state.side v.state cs) c.self.view_is
    (subst (λ rs. WinsWithList rs c.self.inside.whole.side c.self.inside.whole cs) c.deref.ensures.value c.reduce-in-White.ensures.wins)
