use Rattle.std.proofs.Common.{◌∙◌, ap, refl, subst, sym}
use Rattle.go_grid.specs.Board.{other}
use Rattle.whole_budgets.specs.EnginePlay.{HoldsOff}
use Rattle.cycle_solver.specs.Keeping.{IsFirstOf}
use Rattle.cycle_solver.proofs.LentLaws.{answers_back, kept_back, returned, seen_for}
use Rattle.cycle_solver.proofs.cycle_game.CycleGame.held_off.Goals as goal

pub returns-in-Black-clause-first : goal.returns-in-Black-clause-first
returns-in-Black-clause-first c = subst (λ v. IsFirstOf (HoldsOff v.state) c.first_holding.result) c.self.view_is c.first_holding.ensures.first

pub returns-in-White-clause-first : goal.returns-in-White-clause-first
returns-in-White-clause-first c =
    subst (λ v. IsFirstOf (HoldsOff v.state) c.first_holding-in-White.result) c.self.view_is c.first_holding-in-White.ensures.first

pub first_holding-requires-clause-seen : goal.first_holding-requires-clause-seen
first_holding-requires-clause-seen c =
    let kept = c.self.invariant.0 in
    seen_for (ap other (sym c.in-Black.is ∙ c.side.ensures)) kept.held kept.high_sum c.deref.ensures.value refl c.deref-2.ensures.value c.deref_mut.ensures.value

pub first_holding-requires-clause-fits : goal.first_holding-requires-clause-fits
first_holding-requires-clause-fits c = c.self.invariant.1

pub invariant_of-self : goal.invariant_of-self
invariant_of-self c =
    let inv = c.self.invariant in
    let back = returned c.deref_mut.ensures.value c.deref_mut.ensures.len c.first_holding.ensures.same in (
      kept_back inv.0 refl back,
      c.first_holding.ensures.fits,
      inv.2,
      answers_back inv.3 back,
    )

pub returns-in-Black-clause-same : goal.returns-in-Black-clause-same
returns-in-Black-clause-same c = c.self.view_is

pub first_holding-requires-in-White-clause-seen : goal.first_holding-requires-in-White-clause-seen
first_holding-requires-in-White-clause-seen c =
    let kept = c.self.invariant.0 in
    seen_for (ap other (sym c.in-White.is ∙ c.side.ensures)) kept.held kept.low_sum c.deref.ensures.value refl c.deref-2.ensures.value c.deref_mut-in-White.ensures.value

pub first_holding-requires-in-White-clause-fits : goal.first_holding-requires-in-White-clause-fits
first_holding-requires-in-White-clause-fits c = c.self.invariant.1

pub invariant_of-self-in-White : goal.invariant_of-self-in-White
invariant_of-self-in-White c =
    let inv = c.self.invariant in
    let back = returned c.deref_mut-in-White.ensures.value c.deref_mut-in-White.ensures.len c.first_holding-in-White.ensures.same in (
      kept_back inv.0 back refl,
      c.first_holding-in-White.ensures.fits,
      answers_back inv.2 back,
      inv.3,
    )

pub returns-in-White-clause-same : goal.returns-in-White-clause-same
returns-in-White-clause-same c = c.self.view_is
