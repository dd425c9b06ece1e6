use mir.Syntax.{w64}
use Rattle.std.proofs.Common.{string_bytes, subst}
use Rattle.std.proofs.lemmas.Int.{to_z-of_z}
use Rattle.report.specs.inner.Analysis.{HasOpening, HasThresholds}
use Rattle.report.proofs.AnalysisLaws.{margin_is}
use Rattle.report.proofs.analysis.margin_text.Goals as goal

pub returns-clause-text : goal.returns-clause-text
returns-clause-text c =
    let komi = to_z-of_z w64 c.args.komi_halves c.ranges.komi_halves in
    let a = string_bytes c.new-text.result in
    let b = string_bytes c.write_winner.new.text in
    let d = string_bytes c.write_thresholds.new.text in
    margin_is c.args.solved.now.state c.args.komi_halves a b d c.from.result c.new-text.ensures.bytes
    (subst (λ k. HasOpening c.args.solved.now.state k a b) komi c.in_ok-write_winner.ensures.opening)
    (subst (λ T. T) (λ i. HasThresholds (c.in_ok-write_winner.ensures.same i).state (komi i) b d) c.in_ok-write_thresholds.ensures.thresholds) c.from.ensures
