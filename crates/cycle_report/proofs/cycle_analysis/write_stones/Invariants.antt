use Rattle.std.proofs.Common.{◌≡◌, string_bytes}
use Rattle.report.specs.Analysis.{name_on}
use Rattle.cycle_report.specs.inner.CycleAnalysis.{HasCycleStones}
use Rattle.cycle_report.proofs.cycle_analysis.write_stones.Given as goal

abbrev pub invariant-writing : goal.invariant-writing
invariant-writing l =
    HasCycleStones (name_on l.fn.naming l.fn.game.state.board) l.fn.game.state l.fn.komi_halves l.number (string_bytes l.fn.text) (string_bytes l.text) × (l.game ≡ l.fn.game)
