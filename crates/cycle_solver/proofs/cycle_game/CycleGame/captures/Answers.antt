use Rattle.std.proofs.Common.{refl, subst}
use Rattle.cycle_solver.specs.Winner.{TellsCaptures}
use Rattle.cycle_solver.proofs.SumLaws.{seen_lent}
use Rattle.cycle_solver.proofs.LentLaws.{answers_back, kept_back, returned}
use Rattle.cycle_solver.proofs.cycle_game.CycleGame.captures.Goals as goal

pub captures_of-requires-clause-low : goal.captures_of-requires-clause-low
captures_of-requires-clause-low c =
    let kept = c.self.invariant.0 in
    seen_lent kept.held kept.low_sum c.deref.ensures.value refl c.deref-2.ensures.value c.deref_mut.ensures.value

pub captures_of-requires-clause-high : goal.captures_of-requires-clause-high
captures_of-requires-clause-high c =
    let kept = c.self.invariant.0 in
    seen_lent kept.held kept.high_sum c.deref.ensures.value refl c.deref-2.ensures.value c.deref_mut-2.ensures.value

pub returns-clause-captures : goal.returns-clause-captures
returns-clause-captures c =
    subst (λ v. TellsCaptures v.regions v.state c.captures_of.result) c.self.view_is
    (subst (λ rs. TellsCaptures rs c.self.inside.whole c.captures_of.result) c.deref.ensures.value c.captures_of.ensures.captures)

pub captures_of-requires-clause-fits : goal.captures_of-requires-clause-fits
captures_of-requires-clause-fits c = c.self.invariant.1

pub invariant_of-self : goal.invariant_of-self
invariant_of-self c =
    let inv = c.self.invariant in
    let low = returned c.deref_mut.ensures.value c.deref_mut.ensures.len c.captures_of.ensures.low in
    let high = returned c.deref_mut-2.ensures.value c.deref_mut-2.ensures.len c.captures_of.ensures.high in (
      kept_back inv.0 low high,
      c.captures_of.ensures.fits,
      answers_back inv.2 low,
      answers_back inv.3 high,
    )

pub returns-clause-same : goal.returns-clause-same
returns-clause-same c = c.self.view_is
