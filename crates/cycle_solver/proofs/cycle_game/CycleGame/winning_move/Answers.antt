use Rattle.std.proofs.Common.{None, refl, subst, sym, ◌↔◌, ◌∙◌, ◌≡◌}
use Rattle.whole_rules.specs.FirstWinningMove.{IsFirstWinning, IsWinner}
use Rattle.cycle_solver.proofs.ChangeLaws.{none_winner}
use Rattle.cycle_solver.proofs.LentLaws.{answers_back, kept_back, returned, seen_for}
use Rattle.cycle_solver.proofs.cycle_game.CycleGame.winning_move.Goals as goal

pub returns-in-Black-clause-first : goal.returns-in-Black-clause-first
returns-in-Black-clause-first c = subst (λ v. IsFirstWinning v.state c.first_winning_move.result) c.self.view_is c.first_winning_move.ensures.first

pub returns-in-Black-clause-none : goal.returns-in-Black-clause-none
returns-in-Black-clause-none c = subst (λ v. (c.first_winning_move.result ≡ None) ↔ (¬ IsWinner v.state v.state.side)) c.self.view_is
    (none_winner c.self.inside.whole c.first_winning_move.result c.first_winning_move.ensures.first)

pub returns-in-White-clause-first : goal.returns-in-White-clause-first
returns-in-White-clause-first c = subst (λ v. IsFirstWinning v.state c.first_winning_move-in-White.result) c.self.view_is c.first_winning_move-in-White.ensures.first

pub returns-in-White-clause-none : goal.returns-in-White-clause-none
returns-in-White-clause-none c = subst (λ v. (c.first_winning_move-in-White.result ≡ None) ↔ (¬ IsWinner v.state v.state.side)) c.self.view_is
    (none_winner c.self.inside.whole c.first_winning_move-in-White.result c.first_winning_move-in-White.ensures.first)

pub first_winning_move-requires-clause-fits : goal.first_winning_move-requires-clause-fits
first_winning_move-requires-clause-fits c = c.self.invariant.1

pub invariant_of-self : goal.invariant_of-self
invariant_of-self c =
    let inv = c.self.invariant in
    let low = returned c.deref_mut.ensures.value c.deref_mut.ensures.len c.first_winning_move.ensures.same in (
      kept_back inv.0 low refl,
      c.first_winning_move.ensures.fits,
      answers_back inv.2 low,
      inv.3,
    )

pub returns-in-Black-clause-same : goal.returns-in-Black-clause-same
returns-in-Black-clause-same c = c.self.view_is

pub first_winning_move-requires-clause-seen : goal.first_winning_move-requires-clause-seen
first_winning_move-requires-clause-seen c =
    let kept = c.self.invariant.0 in
    seen_for (sym c.in-Black.is ∙ c.side.ensures) kept.held kept.low_sum c.deref.ensures.value refl c.deref-2.ensures.value c.deref_mut.ensures.value

pub first_winning_move-requires-in-White-clause-fits : goal.first_winning_move-requires-in-White-clause-fits
first_winning_move-requires-in-White-clause-fits c = c.self.invariant.1

pub invariant_of-self-in-White : goal.invariant_of-self-in-White
invariant_of-self-in-White c =
    let inv = c.self.invariant in
    let high = returned c.deref_mut-in-White.ensures.value c.deref_mut-in-White.ensures.len c.first_winning_move-in-White.ensures.same in (
      kept_back inv.0 refl high,
      c.first_winning_move-in-White.ensures.fits,
      inv.2,
      answers_back inv.3 high,
    )

pub returns-in-White-clause-same : goal.returns-in-White-clause-same
returns-in-White-clause-same c = c.self.view_is

pub first_winning_move-requires-in-White-clause-seen : goal.first_winning_move-requires-in-White-clause-seen
first_winning_move-requires-in-White-clause-seen c =
    let kept = c.self.invariant.0 in
    seen_for (sym c.in-White.is ∙ c.side.ensures) kept.held kept.high_sum c.deref.ensures.value refl c.deref-2.ensures.value c.deref_mut-in-White.ensures.value
