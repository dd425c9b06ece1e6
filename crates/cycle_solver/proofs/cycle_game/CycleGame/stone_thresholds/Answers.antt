use Rattle.std.proofs.Common.{[], refl, subst, sym, ◌∙◌, ◌∷◌}
use mir.Syntax.{w64}
use Rattle.std.proofs.lemmas.Int.{to_z-of_z}
use Rattle.whole_rules.specs.declared.states.Move.TheVariants.{Stone}
use Rattle.whole_rules.specs.WholeGame.{IsLegal}
use Rattle.cycle_solver.specs.Thresholds.{AreThresholdsFrom}
use Rattle.cycle_solver.proofs.SumLaws.{seen_lent}
use Rattle.cycle_solver.proofs.LentLaws.{answers_back, kept_back, returned}
use Rattle.cycle_solver.proofs.cycle_game.CycleGame.stone_thresholds.Goals as goal

pub thresholds_after-requires-clause-low : goal.thresholds_after-requires-clause-low
thresholds_after-requires-clause-low c =
    let kept = c.self.invariant.0 in
    seen_lent kept.held kept.low_sum c.deref.ensures.value refl c.deref-2.ensures.value c.deref_mut.ensures.value

pub thresholds_after-requires-clause-high : goal.thresholds_after-requires-clause-high
thresholds_after-requires-clause-high c =
    let kept = c.self.invariant.0 in
    seen_lent kept.held kept.high_sum c.deref.ensures.value refl c.deref-2.ensures.value c.deref_mut-2.ensures.value

pub returns-clause-thresholds : goal.returns-clause-thresholds
returns-clause-thresholds c =
    let p = c.args.point in
    let change = c.in_ok-change.ensures {u = tt} in
    subst (λ v. IsLegal v.state (Stone p) × AreThresholdsFrom v.state c.args.komi_halves v.state.side (p ∷ []) c.thresholds_after.result) c.self.view_is (
      change.legal,
      subst (λ k. AreThresholdsFrom c.self.inside.whole k c.self.inside.whole.side (p ∷ []) c.thresholds_after.result)
          (to_z-of_z w64 c.args.komi_halves c.ranges.komi_halves) (c.thresholds_after.ensures.thresholds p change),
    )

pub thresholds_after-requires-clause-change : goal.thresholds_after-requires-clause-change
thresholds_after-requires-clause-change c = (Stone c.args.point, c.in_ok-change.ensures {u = tt})

pub thresholds_after-requires-clause-fits : goal.thresholds_after-requires-clause-fits
thresholds_after-requires-clause-fits c = c.self.invariant.1

pub thresholds_after-requires-clause-low_right : goal.thresholds_after-requires-clause-low_right
thresholds_after-requires-clause-low_right c = answers_back c.self.invariant.2 c.deref_mut.ensures.value

pub thresholds_after-requires-clause-high_right : goal.thresholds_after-requires-clause-high_right
thresholds_after-requires-clause-high_right c = answers_back c.self.invariant.3 c.deref_mut-2.ensures.value

pub invariant_of-self : goal.invariant_of-self
invariant_of-self c =
    let inv = c.self.invariant in
    let now = c.thresholds_after.ensures in
    let low = returned c.deref_mut.ensures.value c.deref_mut.ensures.len now.low in
    let high = returned c.deref_mut-2.ensures.value c.deref_mut-2.ensures.len now.high in (
      kept_back inv.0 low high,
      now.fits,
      answers_back now.low_right (low ∙ sym c.deref_mut.ensures.value),
      answers_back now.high_right (high ∙ sym c.deref_mut-2.ensures.value),
    )

pub returns-clause-same : goal.returns-clause-same
returns-clause-same c = c.self.view_is

pub returns-in_err-change-clause-same : goal.returns-in_err-change-clause-same
returns-in_err-change-clause-same c = refl
