use mir.Syntax.{w64}
use Rattle.std.proofs.Common.{◌∙◌, [], ap, string_bytes, subst}
use Rattle.std.proofs.lemmas.Int.{to_z-of_z}
use Rattle.endgame_solver.specs.Thresholds.{IsThresholdFrom}
use Rattle.report.proofs.AnalysisLaws.{threshold_is}
use Rattle.report.proofs.play_line.write_threshold.Goals as goal

pub returns-clause-threshold : goal.returns-clause-threshold
returns-clause-threshold c =
    let s = c.args.solved.now.state in
    let komi = to_z-of_z w64 c.args.komi_halves c.ranges.komi_halves in
    let side = c.side-side.ensures ∙ ap (λ s. s.side) c.whole.ensures in
    let found = c.threshold-threshold.result in
    threshold_is s c.args.komi_halves found _ (string_bytes c.args.text.now) (string_bytes c.write_komi.new.text)
    (subst (λ T. T) (λ i. IsThresholdFrom s (komi i) (side i) [] found) c.threshold-threshold.ensures.threshold)
    (to_z-of_z w64 found (record { sfits = c.threshold-threshold.type_inv })) c.in_ok-write_komi.ensures
