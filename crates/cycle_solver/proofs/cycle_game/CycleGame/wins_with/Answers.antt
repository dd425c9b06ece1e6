use Rattle.std.proofs.Common.{IsTrue, refl, subst, sym, ◌↔◌}
use Rattle.whole_budgets.specs.EnginePlay.{WinsWithList}
use Rattle.cycle_solver.proofs.SumLaws.{seen_lent}
use Rattle.cycle_solver.proofs.LentLaws.{answers_back, kept_back, returned}
use Rattle.cycle_solver.proofs.cycle_game.CycleGame.wins_with.Goals as goal

pub wins_listed-requires-clause-fits : goal.wins_listed-requires-clause-fits
wins_listed-requires-clause-fits c = c.self.invariant.1

pub invariant_of-self : goal.invariant_of-self
invariant_of-self c =
    let inv = c.self.invariant in
    let low = returned c.deref_mut.ensures.value c.deref_mut.ensures.len c.wins_listed.ensures.same in (
      kept_back inv.0 low refl,
      c.wins_listed.ensures.fits,
      answers_back inv.2 low,
      inv.3,
    )

pub returns-in-Black-clause-same : goal.returns-in-Black-clause-same
returns-in-Black-clause-same c = c.self.view_is

pub wins_listed-requires-clause-seen : goal.wins_listed-requires-clause-seen
wins_listed-requires-clause-seen c =
    let kept = c.self.invariant.0 in
    seen_lent kept.held kept.low_sum c.deref.ensures.value refl c.deref-2.ensures.value c.deref_mut.ensures.value

pub returns-in-Black-clause-wins : goal.returns-in-Black-clause-wins
returns-in-Black-clause-wins c =
    let bs = c.args.budgets.now in
    let answer = c.wins_listed in
    subst (λ v. IsTrue answer.result ↔ WinsWithList v.regions c.args.player v.state bs) c.self.view_is
    (subst (λ rs. IsTrue answer.result ↔ WinsWithList rs c.args.player c.self.inside.whole bs) c.deref.ensures.value
    (subst (λ d. IsTrue answer.result ↔ WinsWithList c.deref.result.now d c.self.inside.whole bs) (sym c.in-Black.is) answer.ensures.wins))

pub wins_listed-requires-in-White-clause-fits : goal.wins_listed-requires-in-White-clause-fits
wins_listed-requires-in-White-clause-fits c = c.self.invariant.1

pub invariant_of-self-in-White : goal.invariant_of-self-in-White
invariant_of-self-in-White c =
    let inv = c.self.invariant in
    let high = returned c.deref_mut-in-White.ensures.value c.deref_mut-in-White.ensures.len c.wins_listed-in-White.ensures.same in (
      kept_back inv.0 refl high,
      c.wins_listed-in-White.ensures.fits,
      inv.2,
      answers_back inv.3 high,
    )

pub returns-in-White-clause-same : goal.returns-in-White-clause-same
returns-in-White-clause-same c = c.self.view_is

pub wins_listed-requires-in-White-clause-seen : goal.wins_listed-requires-in-White-clause-seen
wins_listed-requires-in-White-clause-seen c =
    let kept = c.self.invariant.0 in
    seen_lent kept.held kept.high_sum c.deref.ensures.value refl c.deref-2.ensures.value c.deref_mut-in-White.ensures.value

pub returns-in-White-clause-wins : goal.returns-in-White-clause-wins
returns-in-White-clause-wins c =
    let bs = c.args.budgets.now in
    let answer = c.wins_listed-in-White in
    subst (λ v. IsTrue answer.result ↔ WinsWithList v.regions c.args.player v.state bs) c.self.view_is
    (subst (λ rs. IsTrue answer.result ↔ WinsWithList rs c.args.player c.self.inside.whole bs) c.deref.ensures.value
    (subst (λ d. IsTrue answer.result ↔ WinsWithList c.deref.result.now d c.self.inside.whole bs) (sym c.in-White.is) answer.ensures.wins))
