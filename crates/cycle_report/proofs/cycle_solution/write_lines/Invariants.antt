use Rattle.std.proofs.Common.{◌*◌, ◌≤◌, take, string_bytes}
use Rattle.report.specs.Solution.{HasLines}
use Rattle.cycle_report.proofs.cycle_solution.write_lines.Given as goal

abbrev pub invariant-writing : goal.invariant-writing
invariant-writing l = HasLines l.game.state.board.columns (take l.number l.game.regions) (string_bytes l.fn.text) (string_bytes l.text) l.total
    × (l.total ≤ l.number * 18446744073709551615)
