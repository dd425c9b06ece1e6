use Rattle.std.proofs.Common.{[], ◌∷◌, subst}
use Rattle.go_grid.specs.declared.grid.Colour.TheVariants.{Black, White}
use Rattle.endgame_solver.proofs.MarginLaws.{halves_back, raised_back}
use Rattle.cycle_solver.specs.Thresholds.{IsMarginFor}
use Rattle.cycle_solver.proofs.MarginLaws.{threshold_from}
use Rattle.cycle_solver.proofs.thresholds.thresholds_after.Goals as goal

pub margin_after_for_white-white-requires-clause-margin : goal.margin_after_for_white-white-requires-clause-margin
margin_after_for_white-white-requires-clause-margin c = λ d others p change.
    let s = c.args.present.now.whole.now in
    subst (IsMarginFor d s s.side (p ∷ [])) (halves_back c.margin_after-black.result c.margin_after-black.ensures.small)
    (c.margin_after-black.ensures.margin d others p change)

pub returns-clause-thresholds : goal.returns-clause-thresholds
returns-clause-thresholds c = λ p change.
    let held = c.requires.low.0 in
    let s = c.args.present.now.whole.now in
    record {
      black = threshold_from held Black s.side (p ∷ []) c.args.komi_halves c.margin_after-black.result _ c.margin_after-black.ensures.small
          (raised_back c.args.komi_halves c.margin_after-black.result c.raised.result c.ranges.komi_halves c.margin_after-black.ensures.small c.raised.ensures) (c.margin_after-black.ensures.margin Black (λ ids summed. summed) p change);
      white = threshold_from held White s.side (p ∷ []) c.args.komi_halves c.margin_after_for_white-white.result _ c.margin_after_for_white-white.ensures.small
          (raised_back c.args.komi_halves c.margin_after_for_white-white.result c.raised-2.result c.ranges.komi_halves c.margin_after_for_white-white.ensures.small c.raised-2.ensures) (c.margin_after_for_white-white.ensures.margin p change);
    }
