use Rattle.std.proofs.Common.{ap, ◌∙◌, ◌++◌, arith, string_bytes, ◌+◌, ◌<◌, subst, sym, take}
use Rattle.report.specs.Solution.{solved_line}
use Rattle.report.specs.Solution.{HasLines}
use Rattle.report.proofs.SolutionLaws.{lines_step}
use Rattle.cycle_report.proofs.cycle_solution.write_lines.Goals as goal

pub writing-preserved : goal.writing-preserved
writing-preserved c =
    let game = c.args.game.now in
    let report = c.region_report-report.result in
    let is = c.region_report-report.ensures.report in
    let columns = c.size-size.ensures.columns ∙ ap (λ g. g.columns) (c.board.ensures ∙ ap (λ s. s.board) c.whole.ensures) in
    let line = c.in_ok-write_region.ensures ∙ ap (λ n. string_bytes c.writing.text ++ solved_line n report.lowest report.points report.positions) columns in
    let more = lines_step game.state.board.columns game.regions c.writing.number (string_bytes c.args.text.now) (string_bytes c.writing.text) (string_bytes c.write_region.new.text)
    c.writing.total report.positions report.lowest report.points c.writing.invariant.0 (subst (λ n. c.writing.number < n) c.regions-number-end.ensures c.writing-test.true) is.positions is.lowest_point is.points line in (
      subst (λ n. HasLines game.state.board.columns (take (c.writing.number + 1) game.regions) (string_bytes c.args.text.now) (string_bytes c.write_region.new.text) (c.writing.total + n)) (sym c.from-total.ensures) more,
      omega (arith, c.writing.invariant.1, c.from-total.ensures, c.region_report-report.type_inv),
    )
