use mir.Syntax.{w64}
use Rattle.std.proofs.Common.{string_bytes, subst, []}
use Rattle.std.proofs.lemmas.Int.{to_z-of_z}
use Rattle.go_grid.specs.declared.grid.Colour.TheVariants.{Black, White}
use Rattle.cycle_solver.specs.Thresholds.{AreThresholdsFrom}
use Rattle.cycle_report.proofs.CycleAnalysisLaws.{cycle_thresholds_are}
use Rattle.cycle_report.proofs.cycle_analysis.write_thresholds.Goals as goal

pub returns-clause-thresholds : goal.returns-clause-thresholds
returns-clause-thresholds c =
    let komi = to_z-of_z w64 c.args.komi_halves c.ranges.komi_halves in
    let black = c.thresholds-black.result in
    let white = c.thresholds-white.result in
    cycle_thresholds_are c.args.game.now.state c.args.komi_halves black white (string_bytes c.args.text.now) (string_bytes c.write_both.new.text)
    (string_bytes c.write_both-2.new.text)
    (subst (λ z. AreThresholdsFrom c.args.game.now.state z Black [] black) komi c.thresholds-black.ensures.thresholds)
    (subst (λ T. T) (λ i. AreThresholdsFrom (c.thresholds-black.ensures.same i).state (komi i) White [] white) c.thresholds-white.ensures.thresholds)
    c.in_ok-write_both.ensures c.in_ok-write_both-2.ensures
