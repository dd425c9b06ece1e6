use Rattle.std.proofs.Common.{◌∙◌, ap, string_bytes, ◌++◌, codes}
use Rattle.report.specs.Solution.{count_line}
use Rattle.report.proofs.SolutionLaws.{regions_is}
use Rattle.cycle_report.proofs.cycle_solution.write_regions.Goals as goal

pub returns : goal.returns
returns c =
    let game = c.args.game.now in
    regions_is game.state.board.columns game.regions (string_bytes c.args.text.now) (string_bytes c.write_count.new.text) (string_bytes c.write_lines.new.text)
    (string_bytes c.write_count-2.new.text) c.in_ok-total.total
    (c.in_ok-write_count.ensures ∙ ap (λ n. string_bytes c.args.text.now ++ count_line (codes "regions") n) c.regions.ensures)
    c.in_ok-total.ensures c.in_ok-write_count-2.ensures
