use Rattle.std.proofs.Common.{◌∙◌, ap, string_bytes, ◌++◌}
use Rattle.report.specs.Solution.{state_lines}
use Rattle.cycle_report.proofs.CycleSolutionLaws.{cycle_text_is}
use Rattle.cycle_report.proofs.cycle_solution.cycle_solve_text.Goals as goal

pub returns-clause-text : goal.returns-clause-text
returns-clause-text c =
    cycle_text_is c.args.game.now (string_bytes c.new-text.result) (string_bytes c.write_state.new.text) (string_bytes c.write_regions.new.text) (string_bytes c.write_cycle_solution.new.text)
    c.from.result c.new-text.ensures.bytes (c.in_ok-write_state.ensures ∙ ap (λ s. string_bytes c.new-text.result ++ state_lines s) c.whole.ensures)
    c.in_ok-write_regions.ensures c.in_ok-write_cycle_solution.ensures.outcome c.from.ensures
