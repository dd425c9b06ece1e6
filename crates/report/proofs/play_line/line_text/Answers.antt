use mir.Syntax.{w64}
use Rattle.std.proofs.Common.{◌∙◌, string_bytes, subst}
use Rattle.std.proofs.lemmas.Int.{to_z-of_z}
use Rattle.report.specs.Analysis.{name_on}
use Rattle.report.specs.inner.Analysis.{HasLine, HasOpening, HasThreshold}
use Rattle.report.proofs.AnalysisLaws.{line_is}
use Rattle.report.proofs.play_line.line_text.Goals as goal

pub returns : goal.returns
returns c =
    let komi = to_z-of_z w64 c.args.komi_halves c.ranges.komi_halves in
    let a = string_bytes c.new-text.result in
    let b = string_bytes c.write_winner.new.text in
    let d = string_bytes c.write_threshold.new.text in
    let e = string_bytes c.write_line.new.text in
    let first = c.in_ok-write_winner.ensures.same in
    let second = c.in_ok-write_threshold.ensures.same ∙ first in
    line_is (name_on c.args.naming c.args.solved.now.state.board) c.args.solved.now.regions c.args.solved.now.state c.args.komi_halves a b d e c.from.result c.new-text.ensures.bytes
    (subst (λ k. HasOpening c.args.solved.now.state k a b) komi c.in_ok-write_winner.ensures.opening)
    (subst (λ T. T) (λ i. HasThreshold (first i).state (komi i) b d) c.in_ok-write_threshold.ensures.threshold)
    (subst (λ v. HasLine (name_on c.args.naming v.state.board) v.regions v.state d e) second c.in_ok-write_line.ensures) c.from.ensures
