use mir.Syntax.{w64}
use Rattle.std.proofs.Common.{string_bytes, subst}
use Rattle.std.proofs.lemmas.Int.{to_z-of_z}
use Rattle.cycle_report.specs.inner.CycleAnalysis.{HasCycleOpening, HasCycleThresholds}
use Rattle.cycle_report.proofs.CycleAnalysisLaws.{cycle_margin_is}
use Rattle.cycle_report.proofs.cycle_analysis.cycle_margin_text.Goals as goal

pub returns-clause-text : goal.returns-clause-text
returns-clause-text c =
    let komi = to_z-of_z w64 c.args.komi_halves c.ranges.komi_halves in
    let a = string_bytes c.new-text.result in
    let b = string_bytes c.write_game_opening.new.text in
    let d = string_bytes c.write_thresholds.new.text in
    cycle_margin_is c.args.game.now.state c.args.komi_halves a b d c.from.result c.new-text.ensures.bytes
    (subst (λ k. HasCycleOpening c.args.game.now.state k a b) komi c.in_ok-write_game_opening.ensures.opening)
    (subst (λ T. T) (λ i. HasCycleThresholds (c.in_ok-write_game_opening.ensures.same i).state (komi i) b d) c.in_ok-write_thresholds.ensures.thresholds) c.from.ensures
