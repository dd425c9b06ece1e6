use Rattle.std.proofs.Common.{[], subst}
use Rattle.go_grid.specs.declared.grid.Colour.TheVariants.{Black, White}
use Rattle.endgame_solver.proofs.MarginLaws.{halves_back, raised_back}
use Rattle.cycle_solver.specs.Thresholds.{IsMarginFor}
use Rattle.cycle_solver.proofs.MarginLaws.{threshold_from}
use Rattle.cycle_solver.proofs.thresholds.thresholds_of.Goals as goal

pub margin_for_white-white-requires-clause-margin : goal.margin_for_white-white-requires-clause-margin
margin_for_white-white-requires-clause-margin c = λ d others.
    subst (IsMarginFor d c.args.present.now.whole.now c.args.first []) (halves_back c.margin_for-black.result c.margin_for-black.ensures.small)
    (c.margin_for-black.ensures.margin d others)

pub returns-clause-thresholds : goal.returns-clause-thresholds
returns-clause-thresholds c = let held = c.requires.low.0 in
    let s = c.args.present.now.whole.now in
    record {
      black = threshold_from held Black c.args.first [] c.args.komi_halves c.margin_for-black.result _ c.margin_for-black.ensures.small
          (raised_back c.args.komi_halves c.margin_for-black.result c.raised.result c.ranges.komi_halves c.margin_for-black.ensures.small c.raised.ensures) (c.margin_for-black.ensures.margin Black (λ ids summed. summed));
      white = threshold_from held White c.args.first [] c.args.komi_halves c.margin_for_white-white.result _ c.margin_for_white-white.ensures.small
          (raised_back c.args.komi_halves c.margin_for_white-white.result c.raised-2.result c.ranges.komi_halves c.margin_for_white-white.ensures.small c.raised-2.ensures) c.margin_for_white-white.ensures.margin;
    }
