use Rattle.std.proofs.Common.{[], refl, subst}
use Rattle.cycle_solver.proofs.SumLaws.{seen_lent}
use mir.Syntax.{w64}
use Rattle.std.proofs.lemmas.Int.{to_z-of_z}
use Rattle.cycle_solver.specs.Thresholds.{AreThresholdsFrom}
use Rattle.cycle_solver.proofs.LentLaws.{answers_back, kept_back, returned}
use Rattle.cycle_solver.proofs.cycle_game.CycleGame.thresholds.Goals as goal

pub thresholds_of-requires-clause-low : goal.thresholds_of-requires-clause-low
thresholds_of-requires-clause-low c =
    let kept = c.self.invariant.0 in
    seen_lent kept.held kept.low_sum c.deref.ensures.value refl c.deref-2.ensures.value c.deref_mut.ensures.value

pub thresholds_of-requires-clause-high : goal.thresholds_of-requires-clause-high
thresholds_of-requires-clause-high c =
    let kept = c.self.invariant.0 in
    seen_lent kept.held kept.high_sum c.deref.ensures.value refl c.deref-2.ensures.value c.deref_mut-2.ensures.value

pub thresholds_of-requires-clause-fits : goal.thresholds_of-requires-clause-fits
thresholds_of-requires-clause-fits c = c.self.invariant.1

pub invariant_of-self : goal.invariant_of-self
invariant_of-self c =
    let inv = c.self.invariant in
    let low = returned c.deref_mut.ensures.value c.deref_mut.ensures.len c.thresholds_of.ensures.low in
    let high = returned c.deref_mut-2.ensures.value c.deref_mut-2.ensures.len c.thresholds_of.ensures.high in (
      kept_back inv.0 low high,
      c.thresholds_of.ensures.fits,
      answers_back inv.2 low,
      answers_back inv.3 high,
    )

pub returns-clause-thresholds : goal.returns-clause-thresholds
returns-clause-thresholds c =
    subst (λ v. AreThresholdsFrom v.state c.args.komi_halves c.args.first [] c.thresholds_of.result) c.self.view_is
    (subst (λ k. AreThresholdsFrom c.self.inside.whole k c.args.first [] c.thresholds_of.result)
    (to_z-of_z w64 c.args.komi_halves c.ranges.komi_halves) c.thresholds_of.ensures.thresholds)

pub returns-clause-same : goal.returns-clause-same
returns-clause-same c = c.self.view_is
