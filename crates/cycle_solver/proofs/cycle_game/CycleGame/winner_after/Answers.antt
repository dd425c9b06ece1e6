use Rattle.std.proofs.Common.{MatchOption, refl, subst}
use Rattle.cycle_solver.proofs.SumLaws.{seen_lent}
use Rattle.whole_rules.specs.WholeGame.{IsLegal}
use Rattle.cycle_solver.specs.Winner.{TellsWinnerAfter}
use Rattle.cycle_solver.proofs.LentLaws.{answers_back, kept_back, returned}
use Rattle.cycle_solver.proofs.cycle_game.CycleGame.winner_after.Goals as goal

pub winner_after-requires-clause-low : goal.winner_after-requires-clause-low
winner_after-requires-clause-low c =
    let kept = c.self.invariant.0 in
    seen_lent kept.held kept.low_sum c.deref.ensures.value refl c.deref-2.ensures.value c.deref_mut.ensures.value

pub winner_after-requires-clause-high : goal.winner_after-requires-clause-high
winner_after-requires-clause-high c =
    let kept = c.self.invariant.0 in
    seen_lent kept.held kept.high_sum c.deref.ensures.value refl c.deref-2.ensures.value c.deref_mut-2.ensures.value

pub winner_after-requires-clause-fits : goal.winner_after-requires-clause-fits
winner_after-requires-clause-fits c = c.self.invariant.1

pub invariant_of-self : goal.invariant_of-self
invariant_of-self c =
    let inv = c.self.invariant in
    let low = returned c.deref_mut.ensures.value c.deref_mut.ensures.len c.winner_after.ensures.low in
    let high = returned c.deref_mut-2.ensures.value c.deref_mut-2.ensures.len c.winner_after.ensures.high in (
      kept_back inv.0 low high,
      c.winner_after.ensures.fits,
      answers_back inv.2 low,
      answers_back inv.3 high,
    )

pub returns-clause-winner : goal.returns-clause-winner
returns-clause-winner c =
    let m = c.args.chosen in
    let x = c.winner_after.result in
    subst (λ v. MatchOption x (¬ IsLegal v.state m) (λ y. IsLegal v.state m × TellsWinnerAfter v.state m y)) c.self.view_is c.winner_after.ensures.winner

pub returns-clause-same : goal.returns-clause-same
returns-clause-same c = c.self.view_is
