use mir.Val.{of_z, to_z}
use mir.Syntax.{w64}
use Rattle.std.proofs.Common.{[], refl, subst, sym, ◌∙◌, ◌∷◌}
use Rattle.whole_rules.specs.declared.states.Move.TheVariants.{Stone}
use Rattle.whole_rules.specs.WholeGame.{IsLegal}
use Rattle.endgame_solver.specs.Thresholds.{IsThresholdFrom}
use Rattle.endgame_solver.proofs.MarginLaws.{raised_back, threshold_from}
use Rattle.endgame_solver.proofs.LentLaws.{answers_lent, returned}
use Rattle.endgame_solver.proofs.WinningLaws.{held_lent}
use Rattle.endgame_solver.proofs.solved.Solved.stone_threshold.Goals as goal

pub returns-clause-threshold : goal.returns-clause-threshold
returns-clause-threshold c =
    let (legal, margin) = c.in_ok-beyond.ensures.margin in
    subst (λ v. IsLegal v.state (Stone c.args.point) × IsThresholdFrom v.state c.args.komi_halves v.state.side (c.args.point ∷ []) (to_z w64 (of_z w64 c.raised.result))) c.self.view_is (
      legal,
      threshold_from c.self.invariant.0.kept _ (c.args.point ∷ []) c.args.komi_halves c.in_ok-beyond.beyond _ c.in_ok-beyond.ensures.small
          (raised_back c.args.komi_halves c.in_ok-beyond.beyond c.raised.result c.ranges.komi_halves c.in_ok-beyond.ensures.small c.raised.ensures) margin,
    )

pub stone_margin-requires-clause-seen : goal.stone_margin-requires-clause-seen
stone_margin-requires-clause-seen c = held_lent c.self.invariant.0 c.deref.ensures.value c.deref-2.ensures.value c.deref_mut.ensures.value

pub stone_margin-requires-clause-fits : goal.stone_margin-requires-clause-fits
stone_margin-requires-clause-fits c = c.self.invariant.1

pub stone_margin-requires-clause-right : goal.stone_margin-requires-clause-right
stone_margin-requires-clause-right c = answers_lent c.self.invariant.2 c.deref_mut.ensures.value refl

pub invariant_of-self : goal.invariant_of-self
invariant_of-self c =
    let inv = c.self.invariant in
    let back = returned c.deref_mut.ensures.value c.deref_mut.ensures.len c.stone_margin.ensures.same in
    (held_lent inv.0 refl refl back, c.stone_margin.ensures.fits, answers_lent c.stone_margin.ensures.right (back ∙ sym c.deref_mut.ensures.value) refl)

pub invariant_of-self-2 : goal.invariant_of-self-2
invariant_of-self-2 c =
    let inv = c.self.invariant in
    let back = returned c.deref_mut.ensures.value c.deref_mut.ensures.len c.stone_margin.ensures.same in
    (held_lent inv.0 refl refl back, c.stone_margin.ensures.fits, answers_lent c.stone_margin.ensures.right (back ∙ sym c.deref_mut.ensures.value) refl)

pub returns-in_err-beyond-clause-same : goal.returns-in_err-beyond-clause-same
returns-in_err-beyond-clause-same c = c.self.view_is

pub returns-clause-same : goal.returns-clause-same
returns-clause-same c = c.self.view_is
