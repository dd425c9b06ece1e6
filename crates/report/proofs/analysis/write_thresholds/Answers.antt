use mir.Syntax.{w64}
use Rattle.std.proofs.Common.{string_bytes, subst, []}
use Rattle.std.proofs.lemmas.Int.{to_z-of_z}
use Rattle.go_grid.specs.declared.grid.Colour.TheVariants.{Black, White}
use Rattle.endgame_solver.specs.Thresholds.{IsThresholdFrom}
use Rattle.report.proofs.AnalysisLaws.{thresholds_are}
use Rattle.report.proofs.analysis.write_thresholds.Goals as goal

pub returns-clause-thresholds : goal.returns-clause-thresholds
returns-clause-thresholds c =
    let komi = to_z-of_z w64 c.args.komi_halves c.ranges.komi_halves in
    let black = c.threshold-black.result in
    let white = c.threshold-white.result in
    thresholds_are c.args.solved.now.state c.args.komi_halves black white _ _ (string_bytes c.args.text.now) (string_bytes c.write_komi.new.text)
    (string_bytes c.write_komi-2.new.text)
    (subst (λ z. IsThresholdFrom c.args.solved.now.state z Black [] black) komi c.threshold-black.ensures.threshold)
    (subst (λ T. T) (λ i. IsThresholdFrom (c.threshold-black.ensures.same i).state (komi i) White [] white) c.threshold-white.ensures.threshold)
    (to_z-of_z w64 black (record { sfits = c.threshold-black.type_inv })) (to_z-of_z w64 white (record { sfits = c.threshold-white.type_inv })) c.in_ok-write_komi.ensures c.in_ok-write_komi-2.ensures
