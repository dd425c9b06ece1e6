use Rattle.std.proofs.Common.{refl, subst}
use Rattle.cycle_solver.specs.Winner.{TellsWinner}
use Rattle.cycle_solver.proofs.SumLaws.{seen_lent}
use Rattle.cycle_solver.proofs.LentLaws.{answers_back, kept_back, returned}
use Rattle.cycle_solver.proofs.cycle_game.CycleGame.winner.Goals as goal

pub winner_of-requires-clause-low : goal.winner_of-requires-clause-low
winner_of-requires-clause-low c =
    let kept = c.self.invariant.0 in
    seen_lent kept.held kept.low_sum c.deref.ensures.value refl c.deref-2.ensures.value c.deref_mut.ensures.value

pub winner_of-requires-clause-high : goal.winner_of-requires-clause-high
winner_of-requires-clause-high c =
    let kept = c.self.invariant.0 in
    seen_lent kept.held kept.high_sum c.deref.ensures.value refl c.deref-2.ensures.value c.deref_mut-2.ensures.value

pub winner_of-requires-clause-fits : goal.winner_of-requires-clause-fits
winner_of-requires-clause-fits c = c.self.invariant.1

pub returns-clause-winner : goal.returns-clause-winner
returns-clause-winner c = subst (λ v. TellsWinner v.state c.winner_of.result) c.self.view_is c.winner_of.ensures.winner

pub invariant_of-self : goal.invariant_of-self
invariant_of-self c =
    let inv = c.self.invariant in
    let low = returned c.deref_mut.ensures.value c.deref_mut.ensures.len c.winner_of.ensures.low in
    let high = returned c.deref_mut-2.ensures.value c.deref_mut-2.ensures.len c.winner_of.ensures.high in (
      kept_back inv.0 low high,
      c.winner_of.ensures.fits,
      answers_back inv.2 low,
      answers_back inv.3 high,
    )

pub returns-clause-same : goal.returns-clause-same
returns-clause-same c = c.self.view_is
