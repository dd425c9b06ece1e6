use mir.Val.{of_z, to_z}
use mir.Syntax.{w64}
use Rattle.std.proofs.Common.{◌∙◌, string_bytes, subst}
use Rattle.report.specs.Analysis.{name_on}
use Rattle.cycle_report.specs.inner.CycleAnalysis.{HasCycleStone}
use Rattle.cycle_report.proofs.CycleAnalysisLaws.{cycle_stones_more}
use Rattle.cycle_report.proofs.cycle_analysis.write_stones.Goals as goal

pub writing-preserved : goal.writing-preserved
writing-preserved c =
    let (stones, same) = c.writing.invariant in
    let komi = to_z w64 (of_z w64 c.args.komi_halves) in
    let now = string_bytes c.writing.text in
    let next = string_bytes c.write_stone.new.text in
    let stone = subst (λ v. HasCycleStone (name_on c.args.naming v.state.board) v.state komi c.writing.number now next) same c.in_ok-write_stone.ensures.stone in (
      cycle_stones_more (name_on c.args.naming c.args.game.now.state.board) c.args.game.now.state komi c.writing.number (string_bytes c.args.text.now) now next stones stone,
      c.in_ok-write_stone.ensures.same ∙ same,
    )
